use Rattle.avc_plane.proofs.PlaneMaps.{◌≡◌, ◌<◌, ◌≤◌, ◌+◌, ℕ, length, slice_index}
use Rattle.avc_plane.proofs.plane.rectangle.store_row.Given as goal

abbrev pub invariant-loop-x : goal.invariant-loop-x
invariant-loop-x g l = record {
  long : length l.stored ≡ length l.fn.stored;
  inside : (x : ℕ) → x < l.x → slice_index l.stored (l.start + x) ≡ slice_index l.samples (l.from + x);
  before : (j : ℕ) → j < l.start → slice_index l.stored j ≡ slice_index l.fn.stored j;
  behind : (j : ℕ) → l.start + g.row.W ≤ j → slice_index l.stored j ≡ slice_index l.fn.stored j;
}
