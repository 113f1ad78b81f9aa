use Rattle.avc_plane.proofs.PlaneMaps.{◌≡◌, ℕ, ◌+◌, ◌*◌, ◌<◌, ◌≤◌, slice_index, nearest}
use Rattle.avc_plane.proofs.extension.extend_sides.Given as goal

abbrev pub invariant-loop-y : goal.invariant-loop-y
invariant-loop-y l = record {
  done : (x y : ℕ) → x < l.stride → y < l.y →
      slice_index l.stored ((y + l.pad) * l.stride + x) ≡ slice_index l.fn.stored ((y + l.pad) * l.stride + (nearest l.pad l.width x + l.pad));
  left : (k : ℕ) → (l.y + l.pad) * l.stride ≤ k → slice_index l.stored k ≡ slice_index l.fn.stored k;
}
