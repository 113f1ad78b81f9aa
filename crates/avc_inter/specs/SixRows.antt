-- The six-tap filter over six rows of samples.
use Rattle.std.specs.Prelude.{ℕ, ◌+◌, ◌*◌, ◌/◌, ◌%◌, ◌<◌, ◌≤◌, ◌≡◌, ℤ, pos, ◌+ℤ◌, List, length}
use Rattle.std.specs.Prelude.{slice_index, slice_index_or}
use Rattle.avc_types.specs.Arithmetic.{◌>>ℤ◌, clip1}
use Rattle.avc_samples.specs.Sums.{AreSums}
use Rattle.avc_inter.specs.Luma.{six_taps}
use Rattle.avc_inter.specs.Patch.{taps_along}
use Rattle.avc_inter.specs.declared.six_rows.SixRows.{SixRows}

-- a row has sixteen samples by a function of their number, and sixteen unrounded sums
abbrev pub AreSixteen : List ℕ → (f : ℕ → ℕ) → Type 0
AreSixteen row f = (k : ℕ) → k < 16 → slice_index row k ≡ f k

abbrev pub AreSixteenSums : List ℤ → (f : ℕ → ℤ) → Type 0
AreSixteenSums row f = (k : ℕ) → k < 16 → slice_index_or row k (pos 0) ≡ f k

-- where sample k of a block of so many columns is behind its first one, in rows that begin a stride
-- apart
abbrev pub place_of : (columns stride k : ℕ) → ℕ
place_of columns stride k = k / columns * stride + k % columns

-- the first n samples of a block are there, its first one at this place
abbrev pub HasPlaces : (columns stride n at : ℕ) → List ℕ → Type 0
HasPlaces columns stride n at p = (k : ℕ) → k < n → at + place_of columns stride k < length p

-- a row has the sixteen samples of a block whose first one is at this place
abbrev pub AreSixteenOf : (columns stride : ℕ) → (row p : List ℕ) → (at : ℕ) → Type 0
AreSixteenOf columns stride row p at =
    AreSixteen row (λ k. slice_index p (at + place_of columns stride k))

-- whole rows of so many columns are sixteen samples
pub record AreLanes (columns : ℕ) : Type 0 where
  pub some : 0 < columns
  pub most : columns ≤ 16
  pub all : 16 / columns * columns ≡ 16

-- so many times sixteen samples of a block from this place on are there, five rows more, and five
-- columns right of them
abbrev pub HasRoom : (columns stride count at : ℕ) → List ℕ → Type 0
HasRoom columns stride count at p =
    HasPlaces columns stride (16 * (count + (5 * columns + 15) / 16)) (at + 5) p

-- six rows have the sixteen samples each of a block, the first from this place on, each of the
-- others a step behind the last
pub record AreSixRows (columns stride : ℕ) (rows : SixRows) (p : List ℕ) (at step : ℕ) : Type 0 where
  pub e : AreSixteenOf columns stride rows.e p at
  pub f : AreSixteenOf columns stride rows.f p (at + step)
  pub g : AreSixteenOf columns stride rows.g p (at + 2 * step)
  pub h : AreSixteenOf columns stride rows.h p (at + 3 * step)
  pub i : AreSixteenOf columns stride rows.i p (at + 4 * step)
  pub j : AreSixteenOf columns stride rows.j p (at + 5 * step)

-- the unrounded sum at place k of the rows (8.4.2.2.1)
abbrev pub taps_of : SixRows → ℕ → ℤ
taps_of rows k = six_taps
    (pos (slice_index rows.e k)) (pos (slice_index rows.f k)) (pos (slice_index rows.g k))
    (pos (slice_index rows.h k)) (pos (slice_index rows.i k)) (pos (slice_index rows.j k))

-- the half sample there
abbrev pub half_of : SixRows → ℕ → ℕ
half_of rows k = clip1 (taps_of rows k +ℤ pos 16 >>ℤ 5)

-- the half sample j of six rows of unrounded sums
abbrev pub centre_of : (e f g h i j : List ℤ) → ℕ → ℕ
centre_of e f g h i j k =
    clip1 (six_taps
    (slice_index_or e k (pos 0)) (slice_index_or f k (pos 0)) (slice_index_or g k (pos 0))
    (slice_index_or h k (pos 0)) (slice_index_or i k (pos 0)) (slice_index_or j k (pos 0))
    +ℤ pos 512 >>ℤ 10)

-- the first n numbers are the unrounded sums of the first n samples of a block whose first one is
-- at this place (8.4.2.2.1)
pub record AreSumsOf (columns stride n at : ℕ) (p : List ℕ) (m : List ℤ) : Type 0 where
  pub value : (k : ℕ) → k < n →
      slice_index_or m k (pos 0) ≡ taps_along p (at + place_of columns stride k) 1
  pub small : AreSums n m
