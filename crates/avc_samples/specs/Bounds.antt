-- What an unrounded sum of six taps over samples can be, and a place about a plane.
use Rattle.std.specs.Prelude.{◌^◌, ℤ, pos, neg_ℤ, ◌≤ℤ◌}

-- between six taps that are least and six that are greatest: -10 * 255 and 42 * 255
pub record IsSum (z : ℤ) : Type 0 where
  pub low : neg_ℤ (pos 2550) ≤ℤ z
  pub high : z ≤ℤ pos 10710

-- a column or row of samples on or about a plane, with vectors of 16 bits
pub record IsPlace (z : ℤ) : Type 0 where
  pub low : neg_ℤ (pos (2 ^ 32)) ≤ℤ z
  pub high : z ≤ℤ pos (2 ^ 32)
