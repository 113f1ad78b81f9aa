-- Rectangles of samples in memory, whose rows begin `stride` apart.
use Rattle.std.specs.Prelude.{ℕ, ◌≡◌, ◌≢◌, ◌+◌, ◌*◌, ◌<◌, ◌≤◌, List, length, slice_index}

-- each row of the rectangle ends within the length
abbrev pub IsRoom : (width height start stride long : ℕ) → Type 0
IsRoom width height start stride long = (y : ℕ) → y < height → start + y * stride + width ≤ long

-- only places of the rectangle have changed
abbrev pub IsSameOutside : (width height start stride : ℕ) → (old new : List ℕ) → Type 0
IsSameOutside width height start stride old new =
    (j : ℕ) → ((x y : ℕ) → x < width → y < height → j ≢ start + y * stride + x) →
    slice_index new j ≡ slice_index old j

-- the rectangle has the samples f, and nothing else has changed
pub record IsStridedSet (width height start stride : ℕ) (f : ℕ → ℕ →
    ℕ) (old new : List ℕ) : Type 0 where
  pub long : length new ≡ length old
  pub inside : (y : ℕ) → y < height → (x : ℕ) → x < width → slice_index new (start + y * stride + x)
      ≡ f x y
  pub outside : IsSameOutside width height start stride old new
