use Rattle.avc_inter.proofs.SixRows.{◌≡◌, ◌<◌, ℕ, length, slice_index, mean_of_two, half_of}
use Rattle.avc_inter.proofs.six_rows.SixRows.quarters.Given as goal

abbrev pub invariant-loop-k : goal.invariant-loop-k
invariant-loop-k l = record {
  long : length l.out ≡ 16;
  done : (k : ℕ) → k < l.k → slice_index l.out k ≡ mean_of_two (slice_index l.whole k) (half_of l.fn.self k);
}
