use Rattle.avc_dpb.proofs.EarlyOrder.{length}
use Rattle.avc_dpb.proofs.dpb.empty_all.Given as goal

abbrev pub decreases-loop-frame : goal.decreases-loop-frame
decreases-loop-frame l = length (l.frames).items
