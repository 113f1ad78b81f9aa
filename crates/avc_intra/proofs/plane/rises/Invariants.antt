use Rattle.avc_intra.proofs.Predictions.{◌≡◌, ℕ, ◌<◌, pos, ◌-ℤ◌, ◌*ℤ◌, length, slice_index_or, IsWithin}
use Rattle.avc_intra.proofs.plane.rises.Given as goal

abbrev pub invariant-loop-x : goal.invariant-loop-x
invariant-loop-x g l = record {
  long : length l.rises ≡ g.row.W;
  value : (x : ℕ) → x < l.x → slice_index_or l.rises x (pos 0) ≡ l.across *ℤ (pos x -ℤ pos l.middle);
  small : (x : ℕ) → x < l.x → IsWithin 80000 (slice_index_or l.rises x (pos 0));
}
