-- A plane as it lies in memory, with padding around it, as the map of its own samples.
use Rattle.std.specs.Prelude.{ℕ, ◌+◌, ◌-◌, ◌*◌, ◌/◌, ◌%◌, ◌<◌, ◌≤◌, ◌≡◌, ◌==◌, ◌^◌, if◌then◌else◌}
use Rattle.std.specs.Prelude.{pos, ◌-ℤ◌, min, List, length, slice_index}
use Rattle.avc_plane.specs.Plane.{Plane, plane_of, sample, clamped}

-- a multiple of 64, and the next where it is one of 1,024
abbrev pub off_1024 : ℕ → ℕ
off_1024 n = if n % 1024 == 0 then n + 64 else n

-- How far apart the rows of a plane of this width are that have pad more on each side: whole lines
-- of a cache, which have 64 bytes, but never a multiple of 1,024, at which the rows of a block
-- would push one another out of it.
unfoldable pub stride_of : (pad width : ℕ) → ℕ
stride_of pad width = off_1024 ((width + 2 * pad + 63) / 64 * 64)

-- where the sample in column x and row y is stored: in rows this far apart, with pad more on the
-- left, and pad rows more above
abbrev pub place_in : (pad stride x y : ℕ) → ℕ
place_in pad stride x y = (y + pad) * stride + (x + pad)

abbrev pub stored_place : (pad width x y : ℕ) → ℕ
stored_place pad width x y = place_in pad (stride_of pad width) x y

-- the plane of this size inside the padded rows
abbrev pub inner_plane : (pad stride width height : ℕ) → List ℕ → Plane
inner_plane pad stride width height stored =
    plane_of width height (λ x y. slice_index stored (place_in pad stride x y))

-- the padded rows of a plane, all of them, none too long for an address
pub record IsStored (pad stride width height : ℕ) (stored : List ℕ) : Type 0 where
  pub distance : stride ≡ stride_of pad width
  pub wide : width + 2 * pad ≤ stride
  pub apart : stride < 2 ^ 32
  pub long : length stored ≡ (height + 2 * pad) * stride
  pub narrow : width + 2 * pad < 2 ^ 31
  pub low : height + 2 * pad < 2 ^ 31

-- padded rows that have the samples of p
pub record HaveSamples (pad : ℕ) (p : Plane) (rows : List ℕ) : Type 0 where
  pub long : length rows ≡ (p.height + 2 * pad) * stride_of pad p.width
  pub at : (x y : ℕ) → x < p.width → y < p.height → slice_index rows (stored_place pad p.width x y)
      ≡ sample p x y

-- samples from the one in column x and row y of p on, whose rows are `stride` apart: each of p that
-- is not left of it or above it stands at its distance in columns and rows
pub record HaveRowsFrom (p : Plane) (x y : ℕ) (samples : List ℕ) (stride : ℕ) : Type 0 where
  pub apart : p.width ≤ stride
  pub inside : (i j : ℕ) → x + i < p.width → y + j < p.height → j * stride + i < length samples
  pub at : (i j : ℕ) → x + i < p.width → y + j < p.height → slice_index samples (j * stride + i)
      ≡ sample p (x + i) (y + j)

-- the coordinate inside a size that is nearest to place x of the padded size
abbrev pub nearest : (pad size x : ℕ) → ℕ
nearest pad size x = min (x - pad) (size - 1)

-- The samples of p row by row, with pad more on the left and at least as many on the right, and pad
-- rows more above and below, each of them the sample of p that is nearest (8.4.2.2.1, 8.4.2.2.2).
pub record IsSurrounded (pad : ℕ) (p : Plane) (rows : List ℕ) : Type 0 where
  pub long : length rows ≡ (p.height + 2 * pad) * stride_of pad p.width
  pub near : (x y : ℕ) → x < stride_of pad p.width → y < p.height + 2 * pad →
      slice_index rows (y * stride_of pad p.width + x)
      ≡ clamped p.width p.height (sample p) (pos x -ℤ pos pad) (pos y -ℤ pos pad)

-- the padded rows of a plane that has samples, with its nearest samples around it
pub record IsPadded (pad stride width height : ℕ) (stored : List ℕ) : Type 0 where
  pub rows : IsStored pad stride width height stored
  pub some_column : 0 < width
  pub some_row : 0 < height
  pub surrounded : IsSurrounded pad (inner_plane pad stride width height stored) stored
