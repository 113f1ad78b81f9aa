-- Unrounded sums of six taps, sixteen one behind the other.
use Rattle.std.specs.Prelude.{ℕ, ◌+◌, ◌*◌, ◌<◌, ◌≤◌, ◌≡◌, ℤ, pos, List, slice_index_or}
use Rattle.avc_samples.specs.Bounds.{IsSum}

-- the first n numbers are unrounded sums
abbrev pub AreSums : ℕ → List ℤ → Type 0
AreSums n m = (k : ℕ) → k < n → IsSum (slice_index_or m k (pos 0))

-- u is t with the sixteen sums r as its sixteen of this number
pub record AreSumsPut (row : ℕ) (r t u : List ℤ) : Type 0 where
  pub inside : (i : ℕ) → i < 16 → slice_index_or u (16 * row + i) (pos 0)
      ≡ slice_index_or r i (pos 0)
  pub before : (k : ℕ) → k < 16 * row → slice_index_or u k (pos 0) ≡ slice_index_or t k (pos 0)
  pub behind : (k : ℕ) → 16 * row + 16 ≤ k → slice_index_or u k (pos 0) ≡ slice_index_or t k (pos 0)
