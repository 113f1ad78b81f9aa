use Rattle.avc_intra.proofs.Predictions.{◌-◌, ◌/◌, IsStridedSet, plane_sample}
use Rattle.avc_intra.proofs.plane.lay_plane.Given as goal

abbrev pub invariant-loop-y : goal.invariant-loop-y
invariant-loop-y g l = IsStridedSet g.row.W l.y l.at.first l.at.stride (λ x y. plane_sample (g.row.W / 2 - 1) l.height l.across l.down x y) l.fn.rows l.rows
