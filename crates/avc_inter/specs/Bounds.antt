-- How large blocks are, what the sum of two unrounded sums of six taps can be, where a vector leads
-- to, and how large numbers are that are added.
use Rattle.std.specs.Prelude.{ℕ, ◌+◌, ◌^◌, ◌≤◌, ℤ, pos, neg_ℤ, ◌≤ℤ◌, List}
use Rattle.std.specs.Simd.Lanes.{Each1}

-- a block has so many columns and rows: at least one, and at most so many of each
pub record IsBlock (most width height : ℕ) : Type 0 where
  pub some_columns : 1 ≤ width
  pub few_columns : width ≤ most
  pub some_rows : 1 ≤ height
  pub few_rows : height ≤ most

-- the sum of two unrounded sums
pub record IsPair (z : ℤ) : Type 0 where
  pub low : neg_ℤ (pos 5100) ≤ℤ z
  pub high : z ≤ℤ pos 21420

-- the whole part of a place in a plane moved by a vector
pub record IsMoved (z : ℤ) : Type 0 where
  pub low : neg_ℤ (pos (2 ^ 16)) ≤ℤ z
  pub high : z ≤ℤ pos (2 ^ 31 + 2 ^ 16)

-- at most n from 0
pub record IsWithin (n : ℕ) (z : ℤ) : Type 0 where
  pub low : neg_ℤ (pos n) ≤ℤ z
  pub high : z ≤ℤ pos n

-- the numbers of two rows are so small that their sums and differences have sixteen bits
pub record AreAddable (a b : List ℕ) : Type 0 where
  pub first : Each1 (λ x. x ≤ 16383) a
  pub second : Each1 (λ x. x ≤ 16383) b
