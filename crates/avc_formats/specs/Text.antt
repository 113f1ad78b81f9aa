-- Text of all formats.
use Rattle.std.specs.Prelude.{ℕ, List, [], ◌∷◌}

-- the end of a line
abbrev pub newline : List ℕ
newline = 10 ∷ []
