use Rattle.avc_inter.proofs.SixRows.{◌≡◌, ◌<◌, ℕ, length, slice_index, half_of}
use Rattle.avc_inter.proofs.six_rows.SixRows.halves.Given as goal

abbrev pub invariant-loop-k : goal.invariant-loop-k
invariant-loop-k l = record {
  long : length l.out ≡ 16;
  done : (k : ℕ) → k < l.k → slice_index l.out k ≡ half_of l.fn.self k;
}
