-- What a stream loses behind refusals: decoding waits for a unit to start with, and passes slices
-- over meanwhile (this decoder's rule).
use Rattle.std.specs.Prelude.{ℕ, ◌+◌, Bool, true, not, ◌&&◌, if◌then◌else◌, Option, Some, None}
use Rattle.avc_annexb.specs.SplitterState.{SplitterState, after_next_unit, new_splitter}
use Rattle.avc_annexb.specs.Units.{forbidden_zero_bit, saturated}
use Rattle.avc_annexb.specs.declared.unit.Unit.{Unit}
use Rattle.avc_units.specs.Grouping.{is_start}
use Rattle.avc_tools.specs.Pieces.{is_slice}
use Rattle.avc_tools.specs.declared.losses.SeenUnit.{SeenUnit}

-- A stream that is followed beside its decoding: its units, of which some were taken, whether
-- decoding waits behind these, and how many slices among them were passed over.
pub record Followed : Type 0 where
  pub units : SplitterState
  pub waits : Bool
  pub passed : ℕ

-- at the start of a stream decoding waits
abbrev pub new_followed : Followed
new_followed = record { units = new_splitter; waits = true; passed = 0 }

-- A slice with which decoding can't start: while it waits, it is passed over. One whose
-- forbidden_zero_bit is 1 is refused.
abbrev pub is_passed : Unit → Bool
is_passed u = is_slice u && (not (forbidden_zero_bit u.header) && not (is_start u))

-- behind the next unit, if there is one
abbrev pub behind : Followed → Option Unit → Followed
behind f None = f
behind f (Some u) = record {
  units = after_next_unit f.units (Some u);
  waits = f.waits && not (is_start u);
  passed = if f.waits && is_passed u then saturated (f.passed + 1) else f.passed;
}

-- behind a unit that is refused with a picture: decoding waits
abbrev pub behind_loss : Followed → Followed
behind_loss f = record f { waits = true }

-- what is told of a unit: its place among the stream's units, and whether it is a slice
abbrev pub seen_as : Unit → SeenUnit
seen_as u = record { index = u.index; is_slice = is_slice u }

-- of the next, if there is one
abbrev pub seen : Option Unit → Option SeenUnit
seen None = None
seen (Some u) = Some (seen_as u)
