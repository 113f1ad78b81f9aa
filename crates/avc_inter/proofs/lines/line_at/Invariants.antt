use Rattle.avc_inter.proofs.SixRows.{◌≡◌, ◌<◌, ◌+◌, ℕ, length, slice_index}
use Rattle.avc_inter.proofs.lines.line_at.Given as goal

abbrev pub invariant-loop-x : goal.invariant-loop-x
invariant-loop-x g l = record {
  long : length l.line ≡ g.row.W;
  done : (x : ℕ) → x < l.x → slice_index l.line x ≡ slice_index l.p (l.first + x);
}
