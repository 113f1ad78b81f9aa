-- The sequence parameter set of the first slice that is decoded, which is looked for in the front
-- of a stream.
use Rattle.std.specs.Prelude.{◌≡◌, ℕ, ◌<◌, ◌≤◌, Bool, true, false, if◌then◌else◌, List, [], ◌∷◌}
use Rattle.std.specs.Prelude.{◌++◌, length, Option, Some, None}
use Rattle.std.specs.Io.KnownBytes.{Consumes}
use Rattle.avc_annexb.specs.SplitterState.{SplitterState}
use Rattle.avc_annexb.specs.Units.{units}
use Rattle.avc_annexb.specs.declared.unit.Unit.{Unit}
use Rattle.avc_params.specs.Tables.{Sets, sets_after}
use Rattle.avc_params.specs.declared.set_unit.SetUnit.{SetUnit}
use Rattle.avc_params.specs.declared.sps.Sps.{Sps}
use Rattle.avc_units.specs.Bringing.{brought, sps_under}
use Rattle.avc_units.specs.Grouping.{is_start, set_units}
use Rattle.avc_units.specs.declared.header_reader.Brought.{Brought}
use Rattle.avc_units.specs.declared.header_reader.Brought.TheVariants.{Slice}
use Rattle.avc_tools.specs.Streams.{IsDrained, after_units_left, units_left}
use Rattle.avc_console.specs.Reading.{max_unit, HasRead}
use Rattle.avc_console.specs.declared.fault.RunFault.{RunFault}
use Rattle.avc_console.specs.declared.fault.RunFault.TheVariants.{Read, Memory}
use Rattle.avc_presentation.specs.Presenting.{IsPresented, Says}
use Rattle.avc_presentation.specs.declared.presentation.Presentation.{Presentation}

-- the set of a slice that is brought
abbrev pub sps_named : Sets → Brought → Option Sps
sps_named sets (Slice header) = sps_under sets header
sps_named sets _ = None

-- the set of this unit, where decoding can start with it (this decoder's rule)
abbrev pub starting_sps : Sets → Unit → Option Sps
starting_sps sets u = if is_start u then sps_named sets (brought sets u) else None

-- the first of two that is there
abbrev pub first_of : {A : Type 0} → Option A → Option A → Option A
first_of (Some a) b = Some a
first_of None b = b

-- the set of the first of these units with which decoding can start, where these parameter sets
-- came before
abbrev pub first_sps : List SetUnit → List Unit → Option Sps
first_sps sets [] = None
first_sps sets (u ∷ us) =
    first_of (starting_sps (sets_after sets) u) (first_sps (sets ++ set_units (u ∷ [])) us)

-- of a stream that begins with these bytes, or has only these
abbrev pub stream_sps : (bytes : List ℕ) → (ended : Bool) → Option Sps
stream_sps bytes ended = first_sps [] (units max_unit bytes ended)

-- so many bytes of a stream are looked at: as many as a unit has at most
abbrev pub front_length : ℕ
front_length = max_unit

-- the most bytes of one read
abbrev pub max_read : ℕ
max_read = 65536

-- These bytes were read for such a slice. The last read gave at most 65,536 of them, and none where
-- it is said to be empty. Before it the bytes had no such slice, and were fewer than are looked at.
pub record ReadsFront (bytes : List ℕ) (empty : Bool) : Type 0 where
  pub before : List ℕ
  pub last : List ℕ
  pub parts : bytes ≡ before ++ last
  pub short : length last ≤ max_read
  pub none : empty ≡ true → last ≡ []
  pub unseen : stream_sps before false ≡ None
  pub fewer : length before < front_length

-- These bytes were read, and this is what the set says of the first slice in them that is decoded.
-- They go up to the end of that slice, in the last read, or are all, or as many as are looked at.
pub record IsFront (unread left : Option (List ℕ)) (bytes : List ℕ)
    (said : Presentation) : Type 0 where
  pub all : Bool
  pub has_read : HasRead unread left bytes all
  pub says : Says (stream_sps bytes all) said
  pub enough : all ≡ false → stream_sps bytes false ≡ None → front_length ≤ length bytes
  pub reads : ReadsFront bytes all

-- A fault of reading came before such a slice, or memory was refused.
abbrev pub NoFront : RunFault → (unread left : Option (List ℕ)) → Type 0
NoFront Read unread left = (bytes : List ℕ) × Consumes unread left bytes × ReadsFront bytes true
NoFront Memory unread left = (bytes : List ℕ) × Consumes unread left bytes × ReadsFront bytes false
NoFront _ unread left = ⊥

-- ---- for private clauses

-- said by this set, or nothing, where there is none
abbrev pub IsSaid : Option Sps → Option Presentation → Type 0
IsSaid None said = said ≡ None
IsSaid (Some s) None = ⊥
IsSaid (Some s) (Some p) = IsPresented s p

-- All units were taken, none of them with which decoding can start, and their sets. Or this is said
-- by the set of the first with which it can start.
abbrev pub IsFound : (old new : SplitterState) (before now : List SetUnit) → Option Presentation →
    Type 0
IsFound old new before now None =
    (first_sps before (units_left max_unit old) ≡ None) ×
    (now ≡ before ++ set_units (units_left max_unit old)) ×
    (new ≡ after_units_left max_unit old)
IsFound old new before now (Some p) = IsSaid (first_sps before (units_left max_unit old)) (Some p)

-- These bytes were read, and all units in them taken, none of them with which decoding can start.
pub record IsLooking (unread left : Option (List ℕ)) (bytes : List ℕ) (s : SplitterState)
    (sets : List SetUnit) : Type 0 where
  pub consumed : Consumes unread left bytes
  pub drained : IsDrained max_unit s
  pub open_end : s.ended ≡ false
  pub bytes_are : s.bytes ≡ bytes
  pub sets_are : sets ≡ set_units (units max_unit bytes false)
  pub none : stream_sps bytes false ≡ None
  pub reads : (bytes ≡ [] → ⊥) → ReadsFront bytes false
