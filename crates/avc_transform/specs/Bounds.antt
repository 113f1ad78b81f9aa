-- How large numbers are, and sixteen of them as a matrix.
use Rattle.std.specs.Prelude.{ℕ, ◌+◌, ◌*◌, ◌<◌, ◌≡◌, ℤ, pos, neg_ℤ, ◌<ℤ◌, List, slice_index_or}

-- z lies between -n and n, and is neither
pub record IsBelow (n : ℕ) (z : ℤ) : Type 0 where
  pub low : neg_ℤ (pos n) <ℤ z
  pub high : z <ℤ pos n

-- so does each of the first `count` numbers of a list
abbrev pub AllBelow : (count n : ℕ) → List ℤ → Type 0
AllBelow count n zs = (i : ℕ) → i < count → IsBelow n (slice_index_or zs i (pos 0))

-- sixteen numbers as a matrix, row by row
abbrev pub matrix : List ℤ → ℕ → ℕ → ℤ
matrix d x y = slice_index_or d (4 * y + x) (pos 0)

-- the list holds the sixteen values of a matrix row by row: at column x and row y that of (x, y)
abbrev pub HasRows : (ℕ → ℕ → ℤ) → List ℤ → Type 0
HasRows f d = (x y : ℕ) → x < 4 → y < 4 → slice_index_or d (4 * y + x) (pos 0) ≡ f x y
