use Rattle.avc_transform.proofs.Residuals.{◌≡◌, ◌<◌, ◌+◌, ℕ, length, slice_index}
use Rattle.avc_transform.proofs.construction.sixteen_from.Given as goal

abbrev pub invariant-loop-i : goal.invariant-loop-i
invariant-loop-i l = record {
  long : length l.sixteen ≡ 16;
  done : (k : ℕ) → k < l.i → slice_index l.sixteen k ≡ slice_index l.samples (l.first + k);
}
