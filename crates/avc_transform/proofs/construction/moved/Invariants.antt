use Rattle.avc_transform.proofs.Residuals.{◌≡◌, ℕ, ℤ, ◌<◌, ◌+ℤ◌, pos, length, slice_index, clip1}
use Rattle.avc_transform.specs.Moves.{AreMovesOf}
use Rattle.avc_transform.proofs.construction.moved.Given as goal

abbrev pub invariant-loop-i : goal.invariant-loop-i
invariant-loop-i l = record {
  long : length l.sums ≡ 16;
  done : (f : ℕ → ℤ) → AreMovesOf f l.moves → (k : ℕ) → k < l.i → slice_index l.sums k ≡ clip1 (pos (slice_index l.samples k) +ℤ f k);
}
