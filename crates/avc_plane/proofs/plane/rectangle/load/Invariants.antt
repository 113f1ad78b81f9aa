use Rattle.avc_plane.proofs.PlaneMaps.{◌≡◌, ◌<◌, ◌+◌, ◌*◌, ℕ, length, slice_index}
use Rattle.avc_plane.proofs.plane.rectangle.load.Given as goal

abbrev pub invariant-loop-y : goal.invariant-loop-y
invariant-loop-y g l = record {
  long : length l.samples ≡ g.row.N;
  done : (x y : ℕ) → x < g.row.W → y < l.y → slice_index l.samples (g.row.W * y + x) ≡ slice_index l.stored (l.start + y * l.stride + x);
}

abbrev pub invariant-loop-x : goal.invariant-loop-x
invariant-loop-x g l = record {
  long : length l.samples ≡ g.row.N;
  done : (x y : ℕ) → x < g.row.W → y < l.y → slice_index l.samples (g.row.W * y + x) ≡ slice_index l.stored (l.start + y * l.stride + x);
  here : (x : ℕ) → x < l.x → slice_index l.samples (g.row.W * l.y + x) ≡ slice_index l.stored (l.start + l.y * l.stride + x);
}
