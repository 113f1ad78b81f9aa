use Rattle.avc_inter.proofs.SixRows.{◌≡◌, ◌<◌, ◌≤◌, ◌+◌, ℕ, length, slice_index}
use Rattle.avc_inter.proofs.lines.put_line.Given as goal

abbrev pub invariant-loop-x : goal.invariant-loop-x
invariant-loop-x g l = record {
  long : length l.out ≡ length l.fn.out;
  here : (x : ℕ) → x < l.x → slice_index l.out (l.first + x) ≡ slice_index l.line x;
  before : (j : ℕ) → j < l.first → slice_index l.out j ≡ slice_index l.fn.out j;
  behind : (j : ℕ) → l.first + g.row.W ≤ j → slice_index l.out j ≡ slice_index l.fn.out j;
}
