use Rattle.avc_inter.proofs.SixRows.{◌≡◌, ◌<◌, ◌+◌, ◌/◌, ℕ, length, slice_index}
use Rattle.avc_inter.proofs.bilinear.blends_of.Given as goal

abbrev pub invariant-loop-k : goal.invariant-loop-k
invariant-loop-k l = record {
  long : length l.out ≡ 16;
  done : (k : ℕ) → k < l.k → slice_index l.out k ≡ (slice_index l.sums k + 32) / 64;
}
