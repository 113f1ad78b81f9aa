-- A stream that is written of units.
use Rattle.std.specs.Prelude.{ℕ, List, [], ◌∷◌, ◌++◌, Some, None}
use Rattle.avc_annexb.specs.declared.unit.Unit.{Unit}

-- zero_byte and start_code_prefix_one_3bytes (B.1.1)
abbrev pub start_code : List ℕ
start_code = 0 ∷ 0 ∷ 0 ∷ 1 ∷ []

-- a unit that is not too long, behind a start code
abbrev pub written : Unit → List ℕ
written u =
    elim u.body [
      | Some body ↦ start_code ++ u.header ∷ body
      | None ↦ start_code ++ u.header ∷ []
    ]
