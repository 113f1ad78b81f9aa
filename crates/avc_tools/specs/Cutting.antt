-- What the functions that cut a stream say to one another.
use Rattle.std.specs.Prelude.{◌≡◌, ℕ, ◌<◌, Bool, true, false, List, [], ◌∷◌, ◌++◌, length, take}
use Rattle.std.specs.Prelude.{drop, Option, Some, None, is_some}
use Rattle.std.specs.List.{flat_map}
use Rattle.avc_annexb.specs.declared.unit.Unit.{Unit}
use Rattle.avc_params.specs.Stored.{stored}
use Rattle.avc_params.specs.Tables.{is_pps, is_sps, pps_in_force, sps_in_force}
use Rattle.avc_params.specs.declared.set_unit.SetUnit.{SetUnit}
use Rattle.avc_units.specs.Grouping.{is_start, set_units}
use Rattle.avc_annexb.specs.Written.{written}
use Rattle.avc_units.specs.Resuming.{deciding_unit, satisfies}
use Rattle.avc_tools.specs.Pieces.{piece}
use Rattle.avc_tools.specs.declared.sets_in_force.SetsInForce.{SetsInForce}

-- the bytes of a unit that is kept, if one is
abbrev pub kept_bytes : Option (List ℕ) → List ℕ
kept_bytes None = []
kept_bytes (Some unit) = unit

-- what is kept under an id, after a unit that has the id or not, and whose set is accepted or not
abbrev pub replaced : (has_id accepted : Bool) → (unit : List ℕ) → Option (List ℕ) → Option (List ℕ)
replaced true true unit old = Some unit
replaced true false unit old = None
replaced false accepted unit old = old

-- Units kept by id, before and after this one that brings this set, or none.
pub record AreReplaced {A : Type 0} (has_id : ℕ → SetUnit → Bool) (record_of : Option SetUnit →
    Option A) (set : Option SetUnit) (unit : List ℕ) (old new : List
    (Option (List ℕ))) : Type 0 where
  pub long : length new ≡ length old
  pub each : (id : ℕ) → id < length old → stored new id
      ≡ replaced (satisfies (has_id id) set) (is_some (record_of set)) unit (stored old id)

-- the unit whose sequence parameter set is in force under an id, and whose picture parameter set is
-- (7.4.1.2.1)
abbrev pub sps_unit : List Unit → ℕ → List Unit
sps_unit before id = deciding_unit (is_some (sps_in_force (set_units before) id)) (is_sps id) before

-- the same of picture parameter sets
abbrev pub pps_unit : List Unit → ℕ → List Unit
pps_unit before id = deciding_unit (is_some (pps_in_force (set_units before) id)) (is_pps id) before

-- These are kept by id, each written.
pub record AreKept (count : ℕ) (by_id : ℕ →
    List Unit) (kept : List (Option (List ℕ))) : Type 0 where
  pub long : length kept ≡ count
  pub each : (id : ℕ) → id < count → kept_bytes (stored kept id) ≡ flat_map written (by_id id)

-- Those are kept whose sets are in force after the units before.
pub record HasSets (before : List Unit) (sets : SetsInForce) : Type 0 where
  pub sps : AreKept 32 (sps_unit before) sets.sps.items
  pub pps : AreKept 256 (pps_unit before) sets.pps.items

-- the bytes of the piece that begins with the first of these units
abbrev pub piece_in : (before : List Unit) → (here : List Unit) → List ℕ
piece_in before [] = []
piece_in before (u ∷ after) = flat_map written (piece before u after)

-- the piece whose cut point stands at a place
abbrev pub piece_at : List Unit → (place : ℕ) → List ℕ
piece_at units place = piece_in (take place units) (drop place units)

-- the same as a list, which is empty where that is no cut point
abbrev pub pieces_in : (before : List Unit) → (here : List Unit) → List (List ℕ)
pieces_in before [] = []
pieces_in before (u ∷ after) =
    elim (is_start u) [
      | true ↦ flat_map written (piece before u after) ∷ []
      | false ↦ []
    ]

-- that piece, if a cut point stands there
abbrev pub pieces_at : List Unit → (place : ℕ) → List (List ℕ)
pieces_at units place = pieces_in (take place units) (drop place units)

-- the units of each piece
abbrev pub piece_units : (before after : List Unit) → List (List Unit)
piece_units before [] = []
piece_units before (u ∷ after) =
    let others = piece_units (before ++ u ∷ []) after in
    elim (is_start u) [ true ↦ piece before u after ∷ others | false ↦ others ]
