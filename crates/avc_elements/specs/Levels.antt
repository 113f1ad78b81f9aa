-- The levels of a block, up to the last that is not 0.
use Rattle.std.specs.Prelude.{ℤ, nat_abs, ◌==◌, List, [], ◌∷◌, if◌then◌else◌}

-- a level in front of these; a 0 in front of none is left out
abbrev pub in_front : ℤ → List ℤ → List ℤ
in_front level [] = if nat_abs level == 0 then [] else level ∷ []
in_front level (next ∷ levels) = level ∷ next ∷ levels

-- coeffLevel without the zeros at its end (7.3.5.3.2)
abbrev pub up_to_last : List ℤ → List ℤ
up_to_last [] = []
up_to_last (level ∷ levels) = in_front level (up_to_last levels)
