-- What was read of a stream and not yet fed: these words are the crate's own.
use Rattle.std.specs.Prelude.{◌≡◌, ℕ, ◌<◌, ◌≤◌, Bool, false, List, [], length}

-- the bytes that wait, and whether the stream has ended
pub record Waiting : Type 0 where
  pub bytes : List ℕ
  pub ended : Bool

-- before anything was read
abbrev pub nothing_read : Waiting
nothing_read = record { bytes = []; ended = false }

-- There is room for a read, and what waits lies in it.
pub record IsKept (piece : List ℕ) (start end : ℕ) : Type 0 where
  pub room : 0 < length piece
  pub order : start ≤ end
  pub inside : end ≤ length piece
