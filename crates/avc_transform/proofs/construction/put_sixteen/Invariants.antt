use Rattle.avc_transform.proofs.Residuals.{◌≡◌, ◌<◌, ◌≤◌, ◌+◌, ℕ, length, slice_index}
use Rattle.avc_transform.proofs.construction.put_sixteen.Given as goal

abbrev pub invariant-loop-i : goal.invariant-loop-i
invariant-loop-i l = record {
  long : length l.samples ≡ 64;
  here : (k : ℕ) → k < l.i → slice_index l.samples (l.first + k) ≡ slice_index l.sixteen k;
  before : (j : ℕ) → j < l.first → slice_index l.samples j ≡ slice_index l.fn.samples j;
  behind : (j : ℕ) → l.first + 16 ≤ j → slice_index l.samples j ≡ slice_index l.fn.samples j;
}
