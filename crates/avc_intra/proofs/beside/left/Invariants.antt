use Rattle.avc_intra.proofs.Predictions.{◌≡◌, ◌<◌, ◌+◌, ◌-◌, ◌*◌, ℕ, length, slice_index}
use Rattle.avc_intra.proofs.beside.left.Given as goal

abbrev pub invariant-loop-y : goal.invariant-loop-y
invariant-loop-y g l = record {
  long : length l.column ≡ g.row.H;
  done : (y : ℕ) → y < l.y → slice_index l.column y ≡ slice_index l.rows (l.at.first + y * l.at.stride - 1);
}
