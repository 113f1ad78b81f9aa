-- What a run takes from its reader and gives to its writer. Where one of them doesn't tell its
-- bytes, nothing is said of these.
use Rattle.std.specs.Prelude.{◌≡◌, ℕ, ◌<◌, ◌≤◌, Bool, true, List, length, take, Option}
use Rattle.std.specs.Io.KnownBytes.{Appends, Consumes, IsAtEnd}

-- These bytes were read, and where they are said to be all, no more are left.
pub record HasRead (unread left : Option (List ℕ)) (bytes : List ℕ) (all : Bool) : Type 0 where
  pub consumed : Consumes unread left bytes
  pub whole : all ≡ true → IsAtEnd left

-- The first of these bytes were written, and not all.
pub record WritesFirst (old new : Option (List ℕ)) (bytes : List ℕ) : Type 0 where
  pub count : ℕ
  pub fewer : count < length bytes
  pub written : Appends old new (take count bytes)

-- The first of these bytes were written, or all of them.
pub record WritesSome (old new : Option (List ℕ)) (bytes : List ℕ) : Type 0 where
  pub count : ℕ
  pub within : count ≤ length bytes
  pub written : Appends old new (take count bytes)

-- A unit of more bytes is too long.
abbrev pub max_unit : ℕ
max_unit = 134217728
