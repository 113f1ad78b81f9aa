-- Where the units stand that refusals name, followed beside decoding.
use Rattle.std.specs.Prelude.{◌≡◌, ℕ, ◌+◌, ◌-◌, ◌==◌, nat_le, Bool, false, not, ◌&&◌, ◌||◌}
use Rattle.std.specs.Prelude.{if◌then◌else◌, List, Option, Some, None, slice_get}
use Rattle.avc_annexb.specs.SplitterState.{SplitterState, after_feed, after_finish, after_next_unit}
use Rattle.avc_annexb.specs.SplitterState.{new_splitter}
use Rattle.avc_annexb.specs.Units.{forbidden_zero_bit, nal_unit_type, saturated}
use Rattle.avc_annexb.specs.declared.unit.Unit.{Unit}
use Rattle.avc_tools.specs.Pieces.{is_slice}
use Rattle.avc_shell.specs.declared.unit_place.UnitPlace.{UnitPlace}

-- the byte of a unit's body that has so many before it
abbrev pub byte_at : (body : Option (List ℕ)) → (place : ℕ) → Option ℕ
byte_at None place = None
byte_at (Some bytes) place = slice_get bytes place

-- a slice header stands at the start of the body: types 1, 2 and 5 (Table 7-1)
abbrev pub has_header : (nal_unit_type : ℕ) → Bool
has_header n = n == 1 || (n == 2 || n == 5)

-- the first bit is the code of 0 (9.1)
abbrev pub begins_with_zero : Option ℕ → Bool
begins_with_zero None = false
begins_with_zero (Some byte) = nat_le 128 byte

-- A coded picture begins with a slice whose first_mb_in_slice, the first element of its header, is
-- 0 (7.3.3, 7.4.3).
abbrev pub begins_picture : Unit → Bool
begins_picture u =
    has_header (nal_unit_type u.header)
    && (not (forbidden_zero_bit u.header) && begins_with_zero (byte_at u.body 0))

-- how many have begun with this unit, by how many had before
abbrev pub begun_with : (begun : ℕ) → Unit → ℕ
begun_with begun u = if begins_picture u then saturated (begun + 1) else begun

-- The byte of a sequence parameter set (type 7) that has so many before it. profile_idc has none,
-- and level_idc two (7.3.2.1.1); emulation prevention stands before level_idc only where
-- profile_idc is 0.
abbrev pub byte_of_set : Unit → (place : ℕ) → Option ℕ
byte_of_set u place = if nal_unit_type u.header == 7 then byte_at u.body place else None

-- a slice is in the coded picture that has begun last
abbrev pub is_in_picture : (begun : ℕ) → Unit → Bool
is_in_picture begun u = is_slice u && nat_le 1 begun

-- where a unit stands with which so many coded pictures have begun
abbrev pub place_of : (begun : ℕ) → Unit → UnitPlace
place_of begun u = record {
  unit = u.index;
  first_byte = u.offset;
  is_in_picture = is_in_picture begun u;
  picture = if is_in_picture begun u then begun - 1 else begun;
  profile_idc = byte_of_set u 0;
  level_idc = byte_of_set u 2;
}

-- A slice that is refused alone is the last of no picture: forbidden_zero_bit is 1 (7.4.1).
abbrev pub is_of_picture : Unit → Bool
is_of_picture u = is_slice u && not (forbidden_zero_bit u.header)

-- A stream that is followed: its units, of which some were taken, how many coded pictures have
-- begun with these, and where the last of them stands, and the last slice of a picture.
pub record Places : Type 0 where
  pub units : SplitterState
  pub begun : ℕ
  pub last : Option UnitPlace
  pub last_slice : Option UnitPlace

-- at the start of a stream
abbrev pub new_places : Places
new_places = record { units = new_splitter; begun = 0; last = None; last_slice = None }

-- where the unit stands that is taken next
abbrev pub place_behind : Places → Unit → UnitPlace
place_behind p u = place_of (begun_with p.begun u) u

-- behind the next unit, if there is one
abbrev pub behind : Places → Option Unit → Places
behind p None = p
behind p (Some u) = record {
  units = after_next_unit p.units (Some u);
  begun = begun_with p.begun u;
  last = Some (place_behind p u);
  last_slice = if is_of_picture u then Some (place_behind p u) else p.last_slice;
}

-- where the unit of this number stands, if this is its place
abbrev pub place_at : Option UnitPlace → (unit : ℕ) → Option UnitPlace
place_at None unit = None
place_at (Some place) unit = if place.unit == unit then Some place else None

-- the first place that is known
abbrev pub first_known : (first second : Option UnitPlace) → Option UnitPlace
first_known None second = second
first_known (Some place) second = Some place

-- where it stands, if it is the last that was taken, or the last slice
-- of a picture
abbrev pub place_in : Places → (unit : ℕ) → Option UnitPlace
place_in p unit = first_known (place_at p.last unit) (place_at p.last_slice unit)

-- What is followed goes on so. Where nothing is followed, nothing is.
abbrev pub FollowsOn : (step : Places → Places) → (old new : Option Places) → Type 0
FollowsOn step None new = new ≡ None
FollowsOn step (Some p) new = new ≡ Some (step p)

-- with the next bytes of the stream
abbrev pub places_with_bytes : (piece : List ℕ) → Places → Places
places_with_bytes piece p = record p { units = after_feed p.units piece }

-- with its end
abbrev pub places_with_end : Places → Places
places_with_end p = record p { units = after_finish p.units }
