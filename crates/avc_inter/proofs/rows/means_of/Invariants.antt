use Rattle.avc_inter.proofs.SixRows.{◌≡◌, ◌<◌, ℕ, length, slice_index, mean_of_two}
use Rattle.avc_inter.proofs.rows.means_of.Given as goal

abbrev pub invariant-loop-k : goal.invariant-loop-k
invariant-loop-k l = record {
  long : length l.out ≡ 16;
  done : (k : ℕ) → k < l.k → slice_index l.out k ≡ mean_of_two (slice_index l.a k) (slice_index l.b k);
}
