use Rattle.avc_tools.proofs.Taking.{◌++◌, ap, ◌∙◌, held_written, nothing_held}
use Rattle.avc_tools.proofs.cutter.Cutter.write_held.Goals as goal

pub returns-in-Waiting : goal.returns-in-Waiting
returns-in-Waiting c = λ s h. nothing_held s c.args.ends c.args.self.now c.args.piece.now.items h c.in-Waiting.is

pub returns-in_ok-extend_from_slice-in-Writing : goal.returns-in_ok-extend_from_slice-in-Writing
returns-in_ok-extend_from_slice-in-Writing c =
    λ s h.
    held_written s c.args.ends c.args.self.now c.args.piece.now.items c.extend_from_slice.new.self.items h c.in-Writing.is c.if-not-ends.false
    (c.in_ok-extend_from_slice-in-Writing.ensures.items ∙ ap (λ t. c.args.piece.now.items ++ t) c.deref.ensures.value)
