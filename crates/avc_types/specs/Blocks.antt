-- A block as the list of its samples, row by row.
use Rattle.std.specs.Prelude.{ℕ, ◌*◌, ◌/◌, ◌%◌, List, map}
use Rattle.std.specs.List.{range_with_len}

-- the block of this size with the sample f(x, y) in column x and row y
abbrev pub block_of : (width height : ℕ) → (ℕ → ℕ → ℕ) → List ℕ
block_of width height f = map (λ i. f (i % width) (i / width)) (range_with_len 0 (width * height))
