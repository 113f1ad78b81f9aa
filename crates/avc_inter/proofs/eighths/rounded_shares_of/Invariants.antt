use Rattle.avc_inter.proofs.SixRows.{◌≡◌, ◌<◌, ℕ, length, slice_index}
use Rattle.avc_inter.specs.Eighths.{rounded_share}
use Rattle.avc_inter.proofs.eighths.rounded_shares_of.Given as goal

abbrev pub invariant-loop-k : goal.invariant-loop-k
invariant-loop-k l = record {
  long : length l.out ≡ 16;
  done : (k : ℕ) → k < l.k → slice_index l.out k ≡ rounded_share l.by.eighths (slice_index l.first k) (slice_index l.second k);
}
