use Rattle.avc_intra.proofs.Predictions.{◌≡◌, ◌<◌, ◌≤◌, ◌+◌, ℕ, length, slice_index}
use Rattle.avc_intra.proofs.lines.put_line.Given as goal

abbrev pub invariant-loop-x : goal.invariant-loop-x
invariant-loop-x g l = record {
  long : length l.rows ≡ length l.fn.rows;
  here : (x : ℕ) → x < l.x → slice_index l.rows (l.first + x) ≡ slice_index l.line x;
  before : (j : ℕ) → j < l.first → slice_index l.rows j ≡ slice_index l.fn.rows j;
  behind : (j : ℕ) → l.first + g.row.W ≤ j → slice_index l.rows j ≡ slice_index l.fn.rows j;
}
