-- Bytes that are read as long as they are those of a picture: these words are the crate's own.
use Rattle.std.specs.Prelude.{◌≡◌, ℕ, ◌+◌, ◌≤◌, List, ◌++◌, length, take, Option}
use Rattle.std.specs.Io.KnownBytes.{Consumes}

-- Where these bytes waited, more were read; so many of the picture's are the first of both, and the
-- others wait now. Of a picture no more are read than are left.
pub record Meets (bytes : List ℕ) (left met : ℕ) (waited waiting : List ℕ)
    (old new : Option (List ℕ)) : Type 0 where
  pub more : List ℕ
  pub consumed : Consumes old new more
  pub first : waited ++ more ≡ take met bytes ++ waiting
  pub within : met ≤ length bytes
  pub few : met + length waiting ≤ left
