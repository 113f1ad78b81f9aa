-- Samples around a block, as they lie in a list.
use Rattle.std.specs.Prelude.{ℕ, ◌+◌, ◌*◌, ◌<◌, ◌≤◌, ◌≡◌, ℤ, pos, ◌+ℤ◌, List, length, slice_index}

-- a sample at every place, those outside the picture too (8.4.2.2.1)
abbrev pub Wide : Type 0
Wide = ℤ → ℤ → ℕ

-- p shows the samples of the map s in so many columns from `left` on and rows from `top` on, row by
-- row
pub record IsPatch (s : Wide) (left top : ℤ) (columns rows : ℕ) (p : List ℕ) : Type 0 where
  pub at : (i j : ℕ) → i < columns → j < rows → slice_index p (j * columns + i)
      ≡ s (left +ℤ pos i) (top +ℤ pos j)

-- the samples of the map s in so many columns and rows from `left` and `top` on are in rows that
-- lie `stride` apart, from place `first` on
pub record IsThere (s : Wide) (left top : ℤ) (columns count first stride : ℕ)
    (rows : List ℕ) : Type 0 where
  pub row : (j : ℕ) → j < count → first + j * stride + columns ≤ length rows
  pub at : (i j : ℕ) → i < columns → j < count → slice_index rows (first + j * stride + i)
      ≡ s (left +ℤ pos i) (top +ℤ pos j)
