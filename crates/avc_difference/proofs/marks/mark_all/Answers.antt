use Rattle.avc_difference.proofs.Counting.{marks_none}
use Rattle.avc_difference.proofs.marks.mark_all.Goals as goal

pub samples-init : goal.samples-init
samples-init c = marks_none c.args.shape c.args.most c.args.ours.now c.args.theirs.now c.args.marks.now c.requires.none
