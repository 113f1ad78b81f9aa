-- Samples around a 4x4 luma block as lists, from which the directional modes are made, and a block
-- as the list of its samples.
use Rattle.std.specs.Prelude.{ℕ, ◌+◌, ◌/◌, ◌%◌, pos, negsuc, List, [], ◌∷◌, map, slice_index}
use Rattle.std.specs.List.{range_with_len}
use Rattle.avc_types.specs.Arithmetic.{mean_of_two, mean_of_three}
use Rattle.avc_intra.specs.Neighbourhood.{Around, top, left_of}

-- nine samples each: the eight above with the last one twice; those on the left with the last one
-- going on; and those from the lowest on the left up to the corner and on above the block
abbrev pub line_above : Around → List ℕ
line_above p =
    top p (pos 0) ∷ top p (pos 1) ∷ top p (pos 2) ∷ top p (pos 3) ∷ top p (pos 4) ∷ top p (pos 5) ∷
    top p (pos 6) ∷ top p (pos 7) ∷ top p (pos 7) ∷ []

-- the samples left of the block downwards, the last of them again and again (8.3.1.2.9)
abbrev pub line_left : Around → List ℕ
line_left p =
    left_of p (pos 0) ∷ left_of p (pos 1) ∷ left_of p (pos 2) ∷ left_of p (pos 3) ∷ left_of p
    (pos 3) ∷ left_of p (pos 3) ∷ left_of p (pos 3) ∷ left_of p (pos 3) ∷ left_of p (pos 3) ∷ []

-- the samples from below on the left round the corner to the right above
abbrev pub line_round : Around → List ℕ
line_round p =
    left_of p (pos 3) ∷ left_of p (pos 2) ∷ left_of p (pos 1) ∷ left_of p (pos 0) ∷ p (negsuc 0)
    (negsuc 0) ∷ top p (pos 0) ∷ top p (pos 1) ∷ top p (pos 2) ∷ top p (pos 3) ∷ []

-- the rounded means of each two, and of each three, neighbours in a line of nine
abbrev pub pairs_of : List ℕ → List ℕ
pairs_of line =
    map (λ i. mean_of_two (slice_index line i) (slice_index line (i + 1))) (range_with_len 0 8)

-- the mean of each sample with the next two, weighted 1, 2, 1
abbrev pub triples_of : List ℕ → List ℕ
triples_of line =
    map (λ i. mean_of_three (slice_index line i) (slice_index line (i + 1))
    (slice_index line (i + 2))) (range_with_len 0 7)

-- the sixteen samples f(x, y), row by row
abbrev pub block4x4 : (ℕ → ℕ → ℕ) → List ℕ
block4x4 f = map (λ i. f (i % 4) (i / 4)) (range_with_len 0 16)
