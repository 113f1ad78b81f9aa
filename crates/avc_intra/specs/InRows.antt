-- What an intra prediction reads, where it stands in the rows in which the block is built: samples
-- around a block, before deblocking.
use Rattle.std.specs.Prelude.{◌≡◌, ℕ, ◌+◌, ◌-◌, ◌*◌, ◌<◌, ◌≤◌, pos, negsuc, true, List, slice_index}
use Rattle.avc_intra.specs.declared.sides.Sides.{Sides}
use Rattle.avc_intra.specs.Neighbourhood.{Around, top, left_of}

-- The samples around p's block of this size stand in rows around the place of its first sample, as
-- far as their side is available.
pub record IsSeen (p : Around) (sides : Sides) (size first stride : ℕ)
    (rows : List ℕ) : Type 0 where
  pub tops : sides.above ≡ true → (stride ≤ first) ×
      ((i : ℕ) → i < size → top p (pos i) ≡ slice_index rows (first - stride + i))
  pub lefts : sides.left ≡ true → (0 < first) × (size < stride) ×
      ((i : ℕ) → i < size → left_of p (pos i) ≡ slice_index rows (first + i * stride - 1))
  pub at_corner : sides.corner ≡ true → (stride < first) ×
      (p (negsuc 0) (negsuc 0) ≡ slice_index rows (first - stride - 1))

-- those around a 4x4 luma block, which are more above
pub record IsSeen4x4 (p : Around) (sides : Sides) (first stride : ℕ) (rows : List ℕ) : Type 0 where
  pub beside : IsSeen p sides 4 first stride rows
  pub tops_right : sides.above_right ≡ true → (stride ≤ first) ×
      ((i : ℕ) → 4 ≤ i → i < 8 → top p (pos i) ≡ slice_index rows (first - stride + i))
