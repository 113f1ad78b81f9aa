-- The sizes that sequence parameter sets of other profiles say: worked examples.
use Rattle.std.proofs.Common.{◌≡◌, ◌∷◌, [], Some, None, refl}
use Rattle.avc_info.specs.RefusedSet.{scaling_list, scaling_lists, size_in}

-- High 10, 128x96
example_high_10 : size_in (110 ∷ 0 ∷ 10 ∷ 166 ∷ 205 ∷ 148 ∷ 32 ∷ 218 ∷ 16 ∷ 128 ∷ []) ≡ Some (record { width = 128; height = 96 })
example_high_10 = refl

-- Main, with fields, 128x96
example_fields : size_in (77 ∷ 64 ∷ 21 ∷ 242 ∷ 4 ∷ 54 ∷ 132 ∷ []) ≡ Some (record { width = 128; height = 96 })
example_fields = refl

-- the set ends before its size
example_short : size_in (110 ∷ 0 ∷ 10 ∷ 166 ∷ 205 ∷ 128 ∷ []) ≡ None
example_short = refl

-- High 4:4:4 Predictive, with eight scaling lists of which some end early, with fields, 208x128
example_lists : size_in (244 ∷ 0 ∷ 31 ∷ 145 ∷ 178 ∷ 142 ∷ 28 ∷ 16 ∷ 15 ∷ 142 ∷ 8 ∷ 8 ∷ 12 ∷ 132 ∷ 4 ∷ 10 ∷ 9 ∷ 136 ∷ 20 ∷ 41 ∷ 9 ∷ 144 ∷ 14 ∷ 96 ∷ 112 ∷ 132 ∷ 82 ∷ 127 ∷ 255 ∷ 150 ∷ 170 ∷ 170 ∷ 170 ∷ 170 ∷ 170 ∷ 170 ∷ 170 ∷ 170 ∷ 170 ∷ 170 ∷ 170 ∷ 170 ∷ 170 ∷ 170 ∷ 170 ∷ 170 ∷ 16 ∷ 27 ∷ 132 ∷ 80 ∷ 32 ∷ 93 ∷ 221 ∷ 221 ∷ 221 ∷ 221 ∷ 221 ∷ 221 ∷ 221 ∷ 221 ∷ 221 ∷ 221 ∷ 221 ∷ 221 ∷ 221 ∷ 221 ∷ 223 ∷ 101 ∷ 13 ∷ 35 ∷ 242 ∷ 224 ∷ 34 ∷ []) ≡ Some (record { width = 208; height = 128 })
unfolding scaling_list scaling_lists
example_lists = refl
