use Rattle.avc_inter.proofs.SixRows.{◌≡◌, ◌<◌, ◌≤◌, ℕ, length, slice_index}
use Rattle.avc_inter.specs.Eighths.{share_of}
use Rattle.avc_inter.proofs.eighths.shares_of.Given as goal

abbrev pub invariant-loop-k : goal.invariant-loop-k
invariant-loop-k l = record {
  long : length l.out ≡ 16;
  done : (k : ℕ) → k < l.k → slice_index l.out k ≡ share_of l.by.eighths (slice_index l.first k) (slice_index l.second k);
  small : (k : ℕ) → k < l.k → slice_index l.out k ≤ 2040;
}
