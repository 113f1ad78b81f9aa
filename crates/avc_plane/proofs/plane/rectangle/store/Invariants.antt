use Rattle.avc_plane.proofs.PlaneMaps.{◌+◌, ◌*◌, slice_index, IsStridedSet}
use Rattle.avc_plane.proofs.plane.rectangle.store.Given as goal

abbrev pub invariant-loop-y : goal.invariant-loop-y
invariant-loop-y g l = IsStridedSet g.row.W l.y l.start l.stride (λ x y. slice_index l.samples (g.row.W * y + x)) l.fn.stored l.stored
