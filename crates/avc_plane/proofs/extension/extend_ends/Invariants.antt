use Rattle.avc_plane.proofs.PlaneMaps.{◌≡◌, ℕ, ◌+◌, ◌-◌, ◌*◌, ◌<◌, ◌≤◌, slice_index}
use Rattle.avc_plane.proofs.extension.extend_ends.Given as goal

abbrev pub invariant-loop-y : goal.invariant-loop-y
invariant-loop-y l = record {
  above : (x y : ℕ) → x < l.stride → y < l.y →
      slice_index l.stored (y * l.stride + x) ≡ slice_index l.fn.stored (l.pad * l.stride + x);
  below : (x y : ℕ) → x < l.stride → y < l.y →
      slice_index l.stored ((l.pad + l.height + y) * l.stride + x) ≡ slice_index l.fn.stored ((l.pad + l.height - 1) * l.stride + x);
  between : (k : ℕ) → l.pad * l.stride ≤ k → k < (l.pad + l.height) * l.stride → slice_index l.stored k ≡ slice_index l.fn.stored k;
}
