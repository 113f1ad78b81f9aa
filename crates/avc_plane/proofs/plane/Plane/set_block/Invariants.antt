use Rattle.avc_plane.proofs.PlaneMaps.{◌≡◌, ◌+◌, ◌*◌, slice_index, with_block}
use Rattle.avc_plane.proofs.plane.Plane.set_block.Given as goal

abbrev pub invariant-loop-row : goal.invariant-loop-row
invariant-loop-row g l = l.self ≡ with_block l.fn.self l.left l.top l.width l.row (λ x y. slice_index l.samples (l.width * y + x))
