-- What is read and written a rectangle at a time, in rows of samples.
use Rattle.std.specs.Prelude.{ℕ, ◌+◌, ◌*◌, ◌≤◌, List, length, slice_index}
use Rattle.avc_plane.specs.Strided.{IsRoom, IsStridedSet}
use Rattle.avc_plane.specs.declared.plane.lending.RowsPlace.{RowsPlace}

-- the place of the sample in column x and row y
abbrev pub sample_place : RowsPlace → (x y : ℕ) → ℕ
sample_place at x y = at.first + (y * at.stride + x)

-- the sample there
abbrev pub sample_in : RowsPlace → List ℕ → (x y : ℕ) → ℕ
sample_in at list x y = slice_index list (at.first + y * at.stride + x)

-- so many columns and rows from a place on are in the list
abbrev pub HasRows : (width height : ℕ) → RowsPlace → List ℕ → Type 0
HasRows width height at list = IsRoom width height at.first at.stride (length list)

-- they are in the list, and each row begins behind the end of the last
pub record HasRowsApart (width height : ℕ) (at : RowsPlace) (list : List ℕ) : Type 0 where
  pub apart : width ≤ at.stride
  pub room : HasRows width height at list

-- they are in the list, and so are a column right of them and a row below
abbrev pub HasRowsAround : (width height : ℕ) → RowsPlace → List ℕ → Type 0
HasRowsAround width height at list = HasRows (width + 1) (height + 1) at list

-- the rectangle at a place has the samples f, and nothing else has changed
abbrev pub IsLaid :
    (width height : ℕ) → RowsPlace → (f : ℕ → ℕ → ℕ) → (old new : List ℕ) → Type 0
IsLaid width height at f old new = IsStridedSet width height at.first at.stride f old new
