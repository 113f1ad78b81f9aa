use Rattle.avc_intra.proofs.Predictions.{◌≡◌, ℕ, ◌+◌, ◌<◌, length, slice_index, mean_of_two}
use Rattle.avc_intra.proofs.directional.pairs.Given as goal

abbrev pub invariant-loop-i : goal.invariant-loop-i
invariant-loop-i l = record {
  long : length l.means ≡ 8;
  done : (k : ℕ) → k < l.i → slice_index l.means k ≡ mean_of_two (slice_index l.line k) (slice_index l.line (k + 1));
}
