-- What a splitter is seen as.
use Rattle.std.specs.Prelude.{◌≡◌, ℕ, ◌+◌, ◌-◌, ◌<◌, ◌≤◌, List, [], ◌++◌, length, take, Bool, true}
use Rattle.std.specs.Prelude.{false, if◌then◌else◌, Option, None, Some, slice_get}
use Rattle.avc_annexb.specs.declared.unit.Unit.{Unit}
use Rattle.avc_annexb.specs.Units.{units}

-- The bytes that were fed, whether they are all, how many units were taken, and whether memory was
-- refused.
pub record SplitterState : Type 0 where
  pub bytes : List ℕ
  pub ended : Bool
  pub taken : ℕ
  pub failed : Bool

-- nothing yet
abbrev pub new_splitter : SplitterState
new_splitter = record { bytes = []; ended = false; taken = 0; failed = false }

-- after a piece. Past the end nothing changes
abbrev pub after_feed : SplitterState → List ℕ → SplitterState
after_feed s piece = if s.ended then s else record s { bytes = s.bytes ++ piece }

-- how many units there are whose end has been seen
abbrev pub unit_count : (max : ℕ) → SplitterState → ℕ
unit_count max s = length (units max s.bytes s.ended)

-- So many of these bytes were taken: all, unless a unit has ended with them. At most one has, and
-- at least one byte was taken where there is one.
pub record TakesUnit (max : ℕ) (old : SplitterState) (bytes : List ℕ) (used : ℕ)
    (new : SplitterState) : Type 0 where
  pub within : used ≤ length bytes
  pub some : 0 < length bytes → 0 < used
  pub is : new ≡ after_feed old (take used bytes)
  pub one : unit_count max new ≤ unit_count max old + 1
  pub all : used < length bytes → unit_count max new ≡ unit_count max old + 1

-- after the end
abbrev pub after_finish : SplitterState → SplitterState
after_finish s = record s { ended = true }

-- after memory was refused
abbrev pub after_failure : SplitterState → SplitterState
after_failure s = record s { failed = true }

-- The unit that comes next: the first that was not taken, if its end has been seen.
abbrev pub next_unit_of : (max : ℕ) → SplitterState → Option Unit
next_unit_of max s = if s.failed then None else slice_get (units max s.bytes s.ended) s.taken

-- after it was taken, if there was one
abbrev pub after_next_unit : SplitterState → Option Unit → SplitterState
after_next_unit s None = s
after_next_unit s (Some unit) = record s { taken = s.taken + 1 }

-- how many units wait to be taken
abbrev pub units_waiting : (max : ℕ) → SplitterState → ℕ
units_waiting max s = length (units max s.bytes s.ended) - s.taken
