-- What the planes of clauses 8.3.3.4 and 8.3.4.4 are made from: sides as lists, and bounds.
use Rattle.std.specs.Prelude.{ℕ, ℤ, pos, negsuc, neg_ℤ, ◌≤ℤ◌, List, slice_index}

-- a side with the corner before its first sample
abbrev pub side_of : List ℕ → ℕ → ℤ → ℕ
side_of side corner (pos i) = slice_index side i
side_of side corner (negsuc i) = corner

-- z lies between -n and n
pub record IsWithin (n : ℕ) (z : ℤ) : Type 0 where
  pub low : neg_ℤ (pos n) ≤ℤ z
  pub high : z ≤ℤ pos n
