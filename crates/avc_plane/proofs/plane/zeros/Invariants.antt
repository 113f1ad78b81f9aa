use Rattle.avc_plane.proofs.PlaneMaps.{◌≡◌, ◌*◌, replicate}
use Rattle.avc_plane.proofs.plane.zeros.Given as goal

abbrev pub invariant-loop-piece : goal.invariant-loop-piece
invariant-loop-piece l = l.zeros.items ≡ replicate (1024 * l.piece) 0
