-- A slice that ends behind one of its macroblocks, ITU-T H.264 clauses 7.3.2.11, 7.3.4 and 7.4.1.
use Rattle.std.specs.Prelude.{ℕ, Bool, List, [], ◌++◌, take, Option, Some, None}
use Rattle.avc_annexb.specs.Escapes.{rbsp}
use Rattle.avc_bits.specs.Bits.{bits_before_stop}
use Rattle.avc_rbsp.specs.Rbsps.{IsUnit}
use Rattle.avc_rbsp.specs.Words.{ue_word}

-- mb_skip_run, if there is one (7.3.4)
abbrev pub run_bits : (run : Option ℕ) → List Bool
run_bits None = []
run_bits (Some run) = ue_word run

-- the first bits of the RBSP of a unit's body, and that run
abbrev pub first_bits : (body : List ℕ) → (kept : ℕ) → (run : Option ℕ) → List Bool
first_bits body kept run = take kept (bits_before_stop (rbsp body)) ++ run_bits run

-- The unit with this header byte whose RBSP has these bits before its stop bit.
abbrev pub IsCutUnit : (header : ℕ) → (body : List ℕ) → (kept : ℕ) → (run : Option ℕ) →
    (unit : List ℕ) → Type 0
IsCutUnit header body kept run unit = IsUnit header (first_bits body kept run) unit
