-- Five rows of sixteen samples that lie below each other, and the half samples of these and of a
-- sixth.
use Rattle.std.specs.Prelude.{ℕ, ◌+◌, ◌*◌, ◌≤◌, ◌≡◌, ℤ, pos, ◌+ℤ◌, List, slice_index}
use Rattle.std.specs.Simd.Lanes.{chunk, Each1}
use Rattle.avc_types.specs.Arithmetic.{◌>>ℤ◌, clip1}
use Rattle.avc_inter.specs.Luma.{six_taps}
use Rattle.avc_inter.specs.declared.five_rows.FiveRows.{FiveRows}

-- numbers that are samples
abbrev pub AreSamples : List ℕ → Type 0
AreSamples row = Each1 (λ x. x ≤ 255) row

-- all numbers of five rows are samples
pub record AreSampleRows (rows : FiveRows) : Type 0 where
  pub e : AreSamples rows.e
  pub f : AreSamples rows.f
  pub g : AreSamples rows.g
  pub h : AreSamples rows.h
  pub i : AreSamples rows.i

-- the unrounded sum at place k of the rows and of a sixth (8.4.2.2.1)
abbrev pub taps_with : FiveRows → (sixth : List ℕ) → ℕ → ℤ
taps_with rows sixth k = six_taps
    (pos (slice_index rows.e k)) (pos (slice_index rows.f k)) (pos (slice_index rows.g k))
    (pos (slice_index rows.h k)) (pos (slice_index rows.i k)) (pos (slice_index sixth k))

-- the half sample there
abbrev pub half_with : FiveRows → (sixth : List ℕ) → ℕ → ℕ
half_with rows sixth k = clip1 (taps_with rows sixth k +ℤ pos 16 >>ℤ 5)

-- five rows have the sixteen samples from a place on, and those one, two, three and four strides
-- further on
pub record AreFiveRows (rows : FiveRows) (p : List ℕ) (at stride : ℕ) : Type 0 where
  pub e : rows.e ≡ chunk at 16 p
  pub f : rows.f ≡ chunk (at + stride) 16 p
  pub g : rows.g ≡ chunk (at + 2 * stride) 16 p
  pub h : rows.h ≡ chunk (at + 3 * stride) 16 p
  pub i : rows.i ≡ chunk (at + 4 * stride) 16 p
  pub small : AreSampleRows rows
