use Rattle.avc_intra.proofs.Predictions.{◌≡◌, ℕ, ◌+◌, ◌*◌, ◌/◌, ◌<◌, [], length, slice_index, slice_index_or}
use Rattle.avc_intra.proofs.chroma.AroundChroma.dc_samples.Given as goal

abbrev pub invariant-loop-y : goal.invariant-loop-y
invariant-loop-y l = record {
  long : length l.samples ≡ 64;
  done : (x y : ℕ) → x < 8 → y < l.y → slice_index l.samples (8 * y + x) ≡ slice_index (slice_index_or l.rows (y / 4) []) x;
}
