use Rattle.avc_inter.proofs.SixRows.{◌≡◌, ℕ, ◌<◌, length, slice_index, weighted}
use Rattle.avc_inter.proofs.weighting.weight.Given as goal

abbrev pub invariant-loop-k : goal.invariant-loop-k
invariant-loop-k g l = record {
  long : length l.samples ≡ 272;
  done : (k : ℕ) → k < l.k → slice_index l.samples k ≡ weighted l.fn.log2_denom l.fn.weight l.fn.offset (slice_index l.old k);
}
