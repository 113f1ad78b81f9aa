use Rattle.avc_samples.proofs.Places.{◌≡◌, ◌<◌, ◌+◌, ℕ, length, slice_index_or, pos}
use Rattle.avc_samples.proofs.sums.sixteen_sums.Given as goal

abbrev pub invariant-loop-k : goal.invariant-loop-k
invariant-loop-k l = record {
  long : length l.out ≡ 16;
  done : (k : ℕ) → k < l.k → slice_index_or l.out k (pos 0) ≡ slice_index_or l.window (l.at + k) (pos 0);
}
