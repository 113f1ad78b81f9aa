use Rattle.avc_intra.proofs.Predictions.{◌≡◌, ℕ, ◌+◌, ◌*◌, ◌<◌, length, slice_index}
use Rattle.avc_intra.proofs.rows.same_rows.Given as goal

abbrev pub invariant-loop-y : goal.invariant-loop-y
invariant-loop-y g l = record {
  long : length l.samples ≡ g.row.N;
  done : (x y : ℕ) → x < g.row.W → y < l.y → slice_index l.samples (g.row.W * y + x) ≡ slice_index l.row x;
}
