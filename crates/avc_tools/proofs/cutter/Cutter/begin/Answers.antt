use Rattle.avc_tools.proofs.Taking.{◌++◌, ap, ◌∙◌, flat_map, kept_bytes, made_first}
use Rattle.avc_tools.proofs.cutter.Cutter.begin.Goals as goal

pub returns-clause-piece : goal.returns-clause-piece
returns-clause-piece c =
    λ before h.
    made_first before c.args.unit.now c.args.self.now c.args.piece.now.items c.write_kept.new.piece.items c.write_kept-2.new.piece.items c.extend_from_slice.new.self.items c.write_unit.new.piece.items h
    (c.in_ok-write_kept.ensures ∙ ap (λ us. c.args.piece.now.items ++ flat_map kept_bytes us) c.deref.ensures.value)
    (c.in_ok-write_kept-2.ensures ∙ ap (λ us. c.write_kept.new.piece.items ++ flat_map kept_bytes us) c.deref-2.ensures.value)
    (c.in_ok-extend_from_slice.ensures.items ∙ ap (λ t. c.write_kept-2.new.piece.items ++ t) c.deref-3.ensures.value)
    c.in_ok-write_unit.ensures
