-- Telling on the standard error, which may take no more.
use Rattle.std.specs.Prelude.{Bool, true, false, ℕ, List, ◌++◌, Option}
use Rattle.std.specs.Io.KnownBytes.{Appends}
use Rattle.avc_console.specs.Reading.{WritesFirst}

-- This text was told on the standard error, all of it, or where the standard error took no more the
-- first of it.
abbrev pub Tells : (before now : Option (List ℕ)) → List ℕ → (told : Bool) → Type 0
Tells before now text true = Appends before now text
Tells before now text false = WritesFirst before now text

-- Behind whatever was told since any start this text was told. Where not all of that was, nothing
-- more is.
pub record TellsMore (was : Bool) (before now : Option (List ℕ)) (text : List ℕ)
    (is : Bool) : Type 0 where
  pub on : (start : Option (List ℕ)) (so_far : List ℕ) → Tells start before so_far was →
      Tells start now (so_far ++ text) is
