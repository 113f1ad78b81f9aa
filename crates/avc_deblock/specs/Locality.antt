-- Which rows the filter of a row of macroblocks reads and changes, ITU-T H.264 clause 8.7.
use Rattle.std.specs.Prelude.{◌≡◌, ℕ, ◌+◌, ◌-◌, ◌*◌, ◌/◌, ◌<◌, ◌≤◌, ℤ, List, length}
use Rattle.avc_plane.specs.Plane.{Plane, sample, with_block}
use Rattle.avc_plane.specs.Planes.{Planes}
use Rattle.avc_deblock.specs.declared.mb_info.MbInfo.{MbInfo}
use Rattle.avc_deblock.specs.Edges.{in_component, luma_per_sample}
use Rattle.avc_deblock.specs.OneEdge.{HasRoom}
use Rattle.avc_deblock.specs.ByInfo.{row_by_info}

-- t is of the size of s and has its samples in the first n rows
pub record AgreesAbove (n : ℕ) (s t : Plane) : Type 0 where
  pub width : t.width ≡ s.width
  pub height : t.height ≡ s.height
  pub long : length t.samples ≡ length s.samples
  pub samples : (x y : ℕ) → x < s.width → y < n → sample t x y ≡ sample s x y

-- t is s but for the rows from `first` on, up to `end`
pub record ChangesWithin (first end : ℕ) (s t : Plane) : Type 0 where
  pub width : t.width ≡ s.width
  pub height : t.height ≡ s.height
  pub long : length t.samples ≡ length s.samples
  pub samples : (x y : ℕ) → x < s.width → y < s.height → (first ≤ y → y < end → ⊥) →
      sample t x y ≡ sample s x y

-- the three planes have the samples of s above the end of this row of macroblocks
pub record AgreesToRow (row : ℕ) (s t : Planes) : Type 0 where
  pub luma : AgreesAbove (16 * row + 16) s.luma t.luma
  pub cb : AgreesAbove (8 * row + 8) s.cb t.cb
  pub cr : AgreesAbove (8 * row + 8) s.cr t.cr

-- the three planes are those of s but for this row of macroblocks and, above it, three rows of luma
-- and one of chroma
pub record ChangesInRow (row : ℕ) (s t : Planes) : Type 0 where
  pub luma : ChangesWithin (16 * row - 3) (16 * row + 16) s.luma t.luma
  pub cb : ChangesWithin (8 * row - 1) (8 * row + 8) s.cb t.cb
  pub cr : ChangesWithin (8 * row - 1) (8 * row + 8) s.cr t.cr

-- as many samples as the size of each plane says
pub record AreFull (s : Planes) : Type 0 where
  pub luma : length s.luma.samples ≡ s.luma.width * s.luma.height
  pub cb : length s.cb.samples ≡ s.cb.width * s.cb.height
  pub cr : length s.cr.samples ≡ s.cr.width * s.cr.height

-- the planes have this row of as many macroblocks
pub record HasRow (row n : ℕ) (s : Planes) : Type 0 where
  pub full : AreFull s
  pub luma_rows : 16 * row + 16 ≤ s.luma.height
  pub cb_rows : 8 * row + 8 ≤ s.cb.height
  pub cr_rows : 8 * row + 8 ≤ s.cr.height
  pub room : (column : ℕ) → column < n → HasRoom column row s

-- The filter of a row changes nothing below the row, nor more than three luma rows above it and one
-- of chroma.
abbrev pub RowChangesItsRows : Type 0
RowChangesItsRows =
    (offset : ℤ) (row : ℕ) (above info : List MbInfo) (s : Planes) → HasRow row (length info) s →
    ChangesInRow row s (row_by_info offset row above info (length info) s)

-- It reads nothing below the row.
abbrev pub RowReadsNoneBelow : Type 0
RowReadsNoneBelow =
    (offset : ℤ) (row : ℕ) (above info : List MbInfo) (s t : Planes) →
    HasRow row (length info) s → AgreesToRow row s t →
    AgreesToRow row (row_by_info offset row above info (length info) s)
    (row_by_info offset row above info (length info) t)

-- So a block of component k that is built below the row can be built before the filter or after it.
abbrev pub RowCommutesWithBlocksBelow : Type 0
RowCommutesWithBlocksBelow =
    (offset : ℤ) (row : ℕ) (above info : List MbInfo) (s : Planes) → HasRow row (length info) s →
    (k left top width height : ℕ) (f : ℕ → ℕ → ℕ) → 16 / luma_per_sample k * (row + 1) ≤ top →
    row_by_info offset row above info (length info)
    (in_component k (λ p. with_block p left top width height f) s)
    ≡ in_component k (λ p. with_block p left top width height f)
    (row_by_info offset row above info (length info) s)
