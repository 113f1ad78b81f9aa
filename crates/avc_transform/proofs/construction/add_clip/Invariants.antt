use Rattle.avc_transform.proofs.Residuals.{◌≡◌, ℕ, ◌<◌, ◌+ℤ◌, pos, length, slice_index, slice_index_or, clip1}
use Rattle.avc_transform.proofs.construction.add_clip.Given as goal

abbrev pub invariant-loop-i : goal.invariant-loop-i
invariant-loop-i l = record {
  long : length l.samples ≡ 16;
  done : (k : ℕ) → k < l.i → slice_index l.samples k ≡ clip1 (pos (slice_index l.prediction k) +ℤ slice_index_or l.residual k (pos 0));
}
