use Rattle.std.proofs.Common.{◌≡◌, drop}
use Rattle.avc_c.specs.Marks.{mark_of}
use Rattle.avc_c.proofs.marks.Marks.mark_of.Given as goal

abbrev pub invariant-loop-mark : goal.invariant-loop-mark
invariant-loop-mark l = mark_of (drop l.mark-index l.mark-items) l.unit ≡ mark_of l.mark-items l.unit
