-- What tools keep of a stream that comes in pieces.
use Rattle.std.specs.Prelude.{◌≡◌, ℕ, ◌+◌, ◌-◌, ◌^◌, ◌<◌, ◌≤◌, Bool, true, false, if◌then◌else◌}
use Rattle.std.specs.Prelude.{List, [], ◌++◌, length, drop}
use Rattle.avc_annexb.specs.Units.{units}
use Rattle.avc_annexb.specs.SplitterState.{SplitterState, after_feed, after_finish}
use Rattle.avc_annexb.specs.declared.unit.Unit.{Unit}

-- The bytes that came, whether they are all, and whether memory was refused.
pub record StreamSoFar : Type 0 where
  pub bytes : List ℕ
  pub ended : Bool
  pub failed : Bool

-- nothing yet
abbrev pub new_stream : StreamSoFar
new_stream = record { bytes = []; ended = false; failed = false }

-- after a piece. Past the end nothing changes
abbrev pub after_piece : StreamSoFar → List ℕ → StreamSoFar
after_piece s piece = if s.ended then s else record s { bytes = s.bytes ++ piece }

-- after the end
abbrev pub after_end : StreamSoFar → StreamSoFar
after_end s = record s { ended = true }

-- What was written before, and then these bytes, is what is written of the stream once more of it
-- has come.
abbrev pub Adds : (text : List ℕ → (ended : Bool) → List ℕ) (old new : StreamSoFar)
    (added : List ℕ) → Type 0
Adds text old new added =
    length new.bytes < 2 ^ 64 → text new.bytes new.ended ≡ text old.bytes old.ended ++ added

-- What is written of a stream's first bytes stays the first of what is written, whatever follows
-- them.
abbrev pub OnlyGrows : (text : List ℕ → (ended : Bool) → List ℕ) → Type 0
OnlyGrows text =
    (bytes more : List ℕ) (ended : Bool) → length (bytes ++ more) < 2 ^ 64 →
    (others : List ℕ) × (text (bytes ++ more) ended ≡ text bytes false ++ others)

-- No unit in memory has more bytes.
abbrev pub max_unit : ℕ
max_unit = 2 ^ 64 - 1

-- the units that a splitter has not yet given out
abbrev pub units_left : (max : ℕ) → SplitterState → List Unit
units_left max s = drop s.taken (units max s.bytes s.ended)

-- the splitter once these were taken
abbrev pub after_units_left : (max : ℕ) → SplitterState → SplitterState
after_units_left max s = record s { taken = s.taken + length (units_left max s) }

-- All units whose end has been seen were taken.
pub record IsDrained (max : ℕ) (s : SplitterState) : Type 0 where
  pub going : s.failed ≡ false
  pub taken : s.taken ≡ length (units max s.bytes s.ended)

-- the splitter after the next bytes, or after the end
abbrev pub after_more : SplitterState → List ℕ → (ends : Bool) → SplitterState
after_more s piece ends = if ends then after_finish s else after_feed s piece

-- Where all units were taken before, those that have come since are left.
pub record AreLeft (max : ℕ) (old new : SplitterState) : Type 0 where
  pub all : units max new.bytes new.ended ≡ units max old.bytes old.ended ++ units_left max new
  pub taken : new.taken ≡ length (units max old.bytes old.ended)
  pub going : new.failed ≡ false
  pub no_fewer : length old.bytes ≤ length new.bytes
