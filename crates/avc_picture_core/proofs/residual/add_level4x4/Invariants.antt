use Rattle.avc_picture_core.proofs.InterTiles.{◌≡◌, ℕ, ◌<◌, ◌≤◌, length, slice_index, sum_of}
use Rattle.avc_picture_core.proofs.residual.add_level4x4.Given as goal

abbrev pub invariant-loop-i : goal.invariant-loop-i
invariant-loop-i g l = record {
  long : length l.samples ≡ 16;
  done : (j : ℕ) → j < l.i → slice_index l.samples j ≡ sum_of (slice_index l.initial.samples j) l.value;
  rest : (j : ℕ) → l.i ≤ j → slice_index l.samples j ≡ slice_index l.initial.samples j;
}
