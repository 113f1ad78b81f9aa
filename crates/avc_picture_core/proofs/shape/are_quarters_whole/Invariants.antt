use Rattle.avc_picture_core.proofs.InterTiles.{ℕ, ◌<◌, IsQuarterShape, Whole}
use Rattle.avc_picture_core.proofs.shape.are_quarters_whole.Given as goal

abbrev pub invariant-loop-quarter : goal.invariant-loop-quarter
invariant-loop-quarter l = (q : ℕ) → q < l.quarter → IsQuarterShape l.motion q Whole
