use Rattle.avc_inter.proofs.SixRows.{◌≡◌, ◌<◌, ◌+◌, ℕ, length, slice_index, slice_index_or, pos, rounded_sum}
use Rattle.avc_inter.proofs.centres.rounded_row.Given as goal

abbrev pub invariant-loop-k : goal.invariant-loop-k
invariant-loop-k l = record {
  long : length l.out ≡ 16;
  done : (k : ℕ) → k < l.k → slice_index l.out k ≡ rounded_sum (slice_index_or l.window (l.at + k) (pos 0));
}
