use Rattle.avc_tools.proofs.Taking.{◌+◌, ◌++◌, ap, sym, ◌∙◌, map, drop, drop-map, flat_map, is_start, kept_bytes, piece_written, part_from}
use Rattle.avc_tools.proofs.piece.piece_at.Goals as goal

pub write_rest-requires : goal.write_rest-requires
write_rest-requires c =
    part_from (c.args.place + 1) c.args.starts.now
    ∙ ap (drop (c.args.place + 1)) c.requires.starts
    ∙ drop-map is_start (c.args.place + 1) c.args.units.now
    ∙ ap (map is_start) (sym (part_from (c.args.place + 1) c.args.units.now))

pub returns : goal.returns
returns c =
    piece_written c.args.units.now c.args.place c.count_through_slices.result c.index-units-place.result c.args.sets.now _ _ _ _ _ _ c.requires.place c.index-units-place.is c.requires.sets
    c.count_through_slices.ensures c.new-piece.ensures.items
    (c.in_ok-write_kept.ensures ∙ ap (λ places. c.new-piece.result.items ++ flat_map kept_bytes places) c.deref.ensures.value)
    (c.in_ok-write_kept-2.ensures ∙ ap (λ places. c.write_kept.new.piece.items ++ flat_map kept_bytes places) c.deref-2.ensures.value)
    c.in_ok-write_leads.ensures c.in_ok-write_unit.ensures c.in_ok-write_rest.ensures
