use Rattle.avc_inter.proofs.SixRows.{◌≡◌, ◌<◌, ℕ, length, slice_index, half_with}
use Rattle.avc_inter.proofs.five_rows.FiveRows.halves_with.Given as goal

abbrev pub invariant-loop-k : goal.invariant-loop-k
invariant-loop-k l = record {
  long : length l.out ≡ 16;
  done : (k : ℕ) → k < l.k → slice_index l.out k ≡ half_with l.fn.self l.fn.sixth k;
}
