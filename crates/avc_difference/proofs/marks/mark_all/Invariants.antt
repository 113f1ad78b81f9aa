use Rattle.avc_difference.specs.Differences.{AreMarks}
use Rattle.avc_difference.proofs.marks.mark_all.Given as goal

abbrev pub invariant-samples : goal.invariant-samples
invariant-samples l = AreMarks l.shape l.most l.ours l.theirs l.place l.marks
