use Rattle.avc_tools.proofs.Taking.{◌++◌, [], refl, ap, sym, ◌∙◌, if◌then◌else◌, not, written, piece_ends_by, piece_goes_on, goes_on_by_slice}
use Rattle.avc_tools.proofs.cutter.Cutter.write_on.Goals as goal

pub returns-then-branch : goal.returns-then-branch
returns-then-branch c =
    λ s h.
    piece_ends_by s c.args.unit.now c.args.self.now _ c.args.piece.now.items c.extend_from_slice.new.self.items h c.requires (sym c.in_ok-is_start.ensures ∙ c.if-branch.true) refl
    (c.in_ok-extend_from_slice.ensures.items ∙ ap (λ t. c.args.piece.now.items ++ t) c.deref.ensures.value)

pub returns-in_ok-write_unit : goal.returns-in_ok-write_unit
returns-in_ok-write_unit c =
    λ s h.
    goes_on_by_slice s c.args.unit.now c.args.self.now _ c.args.piece.now.items c.extend_from_slice-then-is_slice.new.self.items c.write_unit.new.piece.items h c.requires
    (sym c.in_ok-is_start.ensures ∙ c.if-branch.false) (sym c.is_slice.ensures ∙ c.if-is_slice.true) c.requires c.clear.ensures.items c.clear-then-is_slice.ensures.items
    (c.in_ok-extend_from_slice-2.ensures.items ∙ ap (λ t. c.args.piece.now.items ++ t) c.deref-then-is_slice.ensures.value) c.in_ok-write_unit.ensures

pub returns-in_ok-write_if : goal.returns-in_ok-write_if
returns-in_ok-write_if c =
    λ s h.
    piece_goes_on s c.args.unit.now c.args.self.now _ c.args.piece.now.items h c.requires
    (sym c.in_ok-is_start.ensures ∙ c.if-branch.false) (sym c.is_slice.ensures ∙ c.if-is_slice.false) c.requires c.in_ok-write_unit-2.ensures
    (c.in_ok-write_if.ensures ∙ ap (λ b. c.args.self.now.staying.items ++ (if not b then written c.args.unit.now else [])) c.is_left_out.ensures)
