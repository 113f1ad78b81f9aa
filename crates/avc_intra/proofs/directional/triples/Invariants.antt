use Rattle.avc_intra.proofs.Predictions.{◌≡◌, ℕ, ◌+◌, ◌<◌, length, slice_index, mean_of_three}
use Rattle.avc_intra.proofs.directional.triples.Given as goal

abbrev pub invariant-loop-i : goal.invariant-loop-i
invariant-loop-i l = record {
  long : length l.means ≡ 7;
  done : (k : ℕ) → k < l.i → slice_index l.means k ≡ mean_of_three (slice_index l.line k) (slice_index l.line (k + 1)) (slice_index l.line (k + 2));
}
