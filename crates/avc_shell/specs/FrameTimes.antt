-- How long each picture took.
use Rattle.std.specs.Prelude.{ℕ, List, [], ◌∷◌, ◌++◌}
use Rattle.std.specs.Fmt.{decimal}

-- the line of one that took so many nanoseconds
abbrev pub time_line : (nanoseconds : ℕ) → List ℕ
time_line nanoseconds = decimal nanoseconds ++ 10 ∷ []
