use Rattle.avc_plane.proofs.PlaneMaps.{◌≡◌, ◌<◌, ◌+◌, ℕ, length, slice_index}
use Rattle.avc_plane.proofs.plane.rectangle.row_at.Given as goal

abbrev pub invariant-loop-x : goal.invariant-loop-x
invariant-loop-x g l = record {
  long : length l.row ≡ g.row.W;
  done : (x : ℕ) → x < l.x → slice_index l.row x ≡ slice_index l.samples (l.from + x);
}
