-- How a splitter goes through a stream: these words are the crate's own, and callers need none of
-- them.
use Rattle.std.specs.Prelude.{◌≡◌, ◌≢◌, ℕ, ◌+◌, ◌-◌, ◌<◌, ◌≤◌, List, [], ◌++◌, length, take, drop}
use Rattle.std.specs.Prelude.{slice_index, replicate, Bool, true, false, nat_le, if◌then◌else◌}
use Rattle.std.specs.Prelude.{Option, Some, None}
use Rattle.std.specs.Option.{option_map}
use Rattle.avc_annexb.specs.Units.{PlacedUnit, saturated, placed_units, unit_at, unit_bytes}
use Rattle.avc_annexb.specs.Units.{numbered, before_end, without_last_zeros}
use Rattle.avc_annexb.specs.SplitterState.{SplitterState}
use Rattle.avc_annexb.specs.declared.open_unit.OpenUnit.{OpenUnit}
use Rattle.avc_annexb.specs.declared.ready.Ready.{Ready}
use Rattle.avc_annexb.specs.declared.scanner.Scanner.{Scanner}
use Rattle.avc_annexb.specs.declared.splitter.Splitter.TheInside.{Inside}
use Rattle.avc_annexb.specs.declared.splitter.SplitterPhase.{SplitterPhase}
use Rattle.avc_annexb.specs.declared.splitter.SplitterPhase.TheVariants.{Running, Ended, Failed}

-- a run that has no zero
abbrev pub HasNoZero : List ℕ → Type 0
HasNoZero run = (k : ℕ) → k < length run → slice_index run k ≢ 0

-- a run in which each zero stands alone: the byte after it is there, and is not zero
abbrev pub HasLoneZeros : List ℕ → Type 0
HasLoneZeros run = (k : ℕ) → k < length run → slice_index run k ≡ 0 → slice_index run (k + 1) ≢ 0

-- the same of the bytes before a place
abbrev pub HasLoneZerosBefore : ℕ → List ℕ → Type 0
HasLoneZerosBefore n bytes =
    (k : ℕ) → k < n → slice_index bytes k ≡ 0 → (k + 1 < n) × (slice_index bytes (k + 1) ≢ 0)

-- an open unit stands for these bytes at this place
pub record IsOpenUnit (max : ℕ) (o : OpenUnit max) (unit : PlacedUnit) : Type 0 where
  pub offset : o.offset ≡ saturated unit.offset
  pub len : o.length ≡ saturated (length unit.bytes)
  pub header : o.header ≡ slice_index unit.bytes 0
  pub body : option_map (λ v. v.items) o.body
      ≡ (if nat_le (length unit.bytes) max then Some (drop 1 unit.bytes) else None)

-- a unit with these bytes behind its own
abbrev pub with_bytes : PlacedUnit → List ℕ → PlacedUnit
with_bytes unit more = record { offset = unit.offset; bytes = unit.bytes ++ more }

-- the same where there is a unit
abbrev pub with_more : Option PlacedUnit → List ℕ → Option PlacedUnit
with_more None more = None
with_more (Some unit) more = Some (with_bytes unit more)

-- An open unit stands for a unit in the stream, or there is neither.
abbrev pub IsOpenUnitIfAny : (max : ℕ) → Option (OpenUnit max) → Option PlacedUnit → Type 0
IsOpenUnitIfAny max None None = Unit {0}
IsOpenUnitIfAny max (Some o) (Some unit) = IsOpenUnit max o unit
IsOpenUnitIfAny max _ _ = ⊥

-- Whichever bytes the open unit stood for, these have come to them.
abbrev pub AddsBytes : {max : ℕ} → (old new : OpenUnit max) → List ℕ → Type 0
AddsBytes {max} old new more =
    (unit : PlacedUnit) → IsOpenUnit max old unit → IsOpenUnit max new (with_bytes unit more)

-- The same where there is an open unit.
abbrev pub AddsBytesIfAny : {max : ℕ} → (old new : Option (OpenUnit max)) → List ℕ → Type 0
AddsBytesIfAny {max} old new more =
    (unit : Option PlacedUnit) → IsOpenUnitIfAny max old unit →
    IsOpenUnitIfAny max new (with_more unit more)

-- the units that were found are those that were given out and then those that are ready
pub record AreReady (max : ℕ) (r : Ready max) (done : List PlacedUnit) : Type 0 where
  pub units : r.given.items ++ r.units.items ≡ numbered max 0 done
  pub count : r.count ≡ saturated (length done)

-- what becomes of the open unit at its end: a unit, if it has bytes
abbrev pub closed_unit : Option PlacedUnit → List PlacedUnit
closed_unit None = []
closed_unit (Some unit) = unit_at unit.offset (Some unit.bytes)

-- Whichever units had been found, this one has come to them, if it has bytes.
abbrev pub AddsUnit : {max : ℕ} → (old new : Ready max) → OpenUnit max → Type 0
AddsUnit {max} old new unit =
    (done : List PlacedUnit) (placed : PlacedUnit) → AreReady max old done →
    IsOpenUnit max unit placed →
    AreReady max new (done ++ closed_unit (Some placed))

-- The same where there is a unit.
abbrev pub AddsUnitIfAny : {max : ℕ} → (old new : Ready max) → Option (OpenUnit max) → Type 0
AddsUnitIfAny {max} old new unit =
    (done : List PlacedUnit) (placed : Option PlacedUnit) → AreReady max old done →
    IsOpenUnitIfAny max unit placed →
    AreReady max new (done ++ closed_unit placed)

-- One unit more is ready.
abbrev pub HasOneMore : {max : ℕ} → (old new : Ready max) → Type 0
HasOneMore old new = length new.units.items ≡ length old.units.items + 1

-- One unit more is ready, or none.
pub record HasOneMoreAtMost {max : ℕ} (old new : Ready max) : Type 0 where
  pub no_fewer : length old.units.items ≤ length new.units.items
  pub no_more : length new.units.items ≤ length old.units.items + 1

-- what the units from here on are, whatever comes: n bytes came, and of the last of them zeros are
-- not yet in the unit
abbrev pub placed_units_after : ℕ → Option PlacedUnit → ℕ → Bool → List ℕ → List PlacedUnit
placed_units_after n None zeros ended more =
    placed_units (n - zeros) ended (replicate zeros 0 ++ more)
placed_units_after n (Some unit) zeros ended more =
    unit_at unit.offset (unit_bytes ended (unit.bytes ++ (replicate zeros 0 ++ more)))
    ++ placed_units unit.offset ended (unit.bytes ++ (replicate zeros 0 ++ more))

-- No unit ends or begins in these bytes, whatever follows them, and they don't end with a zero.
pub record HasNoBoundary (bytes : List ℕ) : Type 0 where
  pub ends : (more : List ℕ) → before_end (bytes ++ more)
      ≡ option_map (λ front. bytes ++ front) (before_end more)
  pub zeros : (more : List ℕ) → without_last_zeros (bytes ++ more) ≡ bytes
      ++ without_last_zeros more
  pub starts : (place : ℕ) (ended : Bool) (more : List ℕ) → placed_units place ended (bytes ++ more)
      ≡ placed_units (place + length bytes) ended more

-- where the open unit stands, if there is one
abbrev pub IsAt : ℕ → Option PlacedUnit → ℕ → Type 0
IsAt n None zeros = zeros ≤ n
IsAt n (Some unit) zeros = (unit.offset + length unit.bytes + zeros ≡ n) × HasNoBoundary unit.bytes

-- These units are done, and this one is open.
pub record ScannedBytes (bytes : List ℕ) (done : List PlacedUnit) (current : Option PlacedUnit)
    (zeros : ℕ) : Type 0 where
  pub few : zeros ≤ 2
  pub place : IsAt (length bytes) current zeros
  pub rest : (ended : Bool) (more : List ℕ) → placed_units 0 ended (bytes ++ more) ≡ done
      ++ placed_units_after (length bytes) current zeros ended more

-- A scanner has gone through these bytes.
pub record HasScanned (max : ℕ) (s : Scanner max) (bytes : List ℕ) : Type 0 where
  pub done : List PlacedUnit
  pub current : Option PlacedUnit
  pub scanned : ScannedBytes bytes done current s.zeros
  pub unit : IsOpenUnitIfAny max s.unit current
  pub ready : AreReady max s.ready done
  pub position : s.position ≡ saturated (length bytes)

-- Of these bytes so many were scanned, at least one where there is one, and one unit more is ready,
-- or none.
pub record HasTaken (max : ℕ) (old : Scanner max) (piece : List ℕ) (used : ℕ)
    (new : Scanner max) : Type 0 where
  pub within : used ≤ length piece
  pub some : 0 < length piece → 0 < used
  pub scans : (bytes : List ℕ) → HasScanned max old bytes →
      HasScanned max new (bytes ++ take used piece)
  pub few : HasOneMoreAtMost old.ready new.ready

-- what a splitter is seen as
abbrev pub has_ended : SplitterPhase → Bool
has_ended Ended = true
has_ended _ = false

-- memory was refused
abbrev pub has_failed : SplitterPhase → Bool
has_failed (Failed _) = true
has_failed _ = false

-- what its fields say: all bytes so far, whether they have ended, and how many units were given out
abbrev pub splitter_state : {MAX : ℕ} → Inside MAX → SplitterState
splitter_state s = record {
  bytes = s.bytes.items;
  ended = has_ended s.progress;
  taken = length s.scanner.ready.given.items;
  failed = has_failed s.progress;
}

-- what holds in each phase: the scan stands at the end of the bytes; or all units are ready; or
-- nothing is known
abbrev pub IsSplitterStateIn : SplitterPhase → (max : ℕ) → Scanner max → List ℕ → Type 0
IsSplitterStateIn Running max s bytes = HasScanned max s bytes
IsSplitterStateIn Ended max s bytes = AreReady max s.ready (placed_units 0 true bytes)
IsSplitterStateIn (Failed _) max s bytes = Unit {0}

-- the same of a splitter's fields
abbrev pub IsSplitterState : {MAX : ℕ} → Inside MAX → Type 0
IsSplitterState {MAX} s = IsSplitterStateIn s.progress MAX s.scanner s.bytes.items
