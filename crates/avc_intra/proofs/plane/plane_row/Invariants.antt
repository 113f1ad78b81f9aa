use Rattle.avc_intra.proofs.Predictions.{◌≡◌, ℕ, ◌<◌, pos, ◌+ℤ◌, length, slice_index, slice_index_or, ◌>>ℤ◌, clip1}
use Rattle.avc_intra.proofs.plane.plane_row.Given as goal

abbrev pub invariant-loop-x : goal.invariant-loop-x
invariant-loop-x g l = record {
  long : length l.row ≡ g.row.W;
  done : (x : ℕ) → x < l.x → slice_index l.row x ≡ clip1 (l.height +ℤ slice_index_or l.rises x (pos 0) >>ℤ 5);
}
