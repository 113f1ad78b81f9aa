use Rattle.avc_deblock.proofs.FilteredPictures.{◌≡◌, ◌<◌, ◌*◌, ◌+◌, ℕ, pos, length, slice_index_or, zero_vector}
use Rattle.std.specs.Prelude.{◌+ℤ◌}
use Rattle.avc_deblock.proofs.block_rows.raised_components.Given as goal

abbrev pub invariant-loop-k : goal.invariant-loop-k
invariant-loop-k l = record {
  long : length l.out ≡ 32;
  x : (k : ℕ) → k < l.k → pos (slice_index_or l.out (2 * k) 0) ≡ (slice_index_or l.vectors k zero_vector).x +ℤ pos 32768;
  y : (k : ℕ) → k < l.k → pos (slice_index_or l.out (2 * k + 1) 0) ≡ (slice_index_or l.vectors k zero_vector).y +ℤ pos 32768;
}
