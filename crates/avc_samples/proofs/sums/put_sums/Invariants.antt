use Rattle.avc_samples.proofs.Places.{◌≡◌, ◌<◌, ◌≤◌, ◌+◌, ◌*◌, ℕ, length, slice_index_or, pos}
use Rattle.avc_samples.proofs.sums.put_sums.Given as goal

abbrev pub invariant-loop-k : goal.invariant-loop-k
invariant-loop-k l = record {
  long : length l.window ≡ 96;
  place : l.from ≡ 16 * l.row;
  inside : (k : ℕ) → k < l.k → slice_index_or l.window (l.from + k) (pos 0) ≡ slice_index_or l.r k (pos 0);
  before : (k : ℕ) → k < l.from → slice_index_or l.window k (pos 0) ≡ slice_index_or l.fn.window k (pos 0);
  behind : (k : ℕ) → l.from + 16 ≤ k → slice_index_or l.window k (pos 0) ≡ slice_index_or l.fn.window k (pos 0);
}
