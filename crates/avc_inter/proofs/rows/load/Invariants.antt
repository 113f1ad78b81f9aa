use Rattle.avc_inter.proofs.SixRows.{◌≡◌, ◌<◌, ◌+◌, ℕ, length, slice_index}
use Rattle.avc_inter.proofs.rows.load.Given as goal

abbrev pub invariant-loop-k : goal.invariant-loop-k
invariant-loop-k g l = record {
  long : length l.out ≡ 16;
  before : (k : ℕ) → k < l.to → slice_index l.out k ≡ slice_index l.fn.out k;
  here : (k : ℕ) → k < l.k → slice_index l.out (l.to + k) ≡ slice_index l.p (l.from + k);
}
