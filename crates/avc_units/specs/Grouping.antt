-- What each unit does to the open picture and to the parameter sets (7.4.1.2, and this decoder's
-- rules for faults).
use Rattle.std.specs.Prelude.{◌≡◌, is_some, ℕ, Bool, true, false, not, ◌==◌, ◌&&◌, ◌||◌, nat_le}
use Rattle.std.specs.Prelude.{List, [], ◌∷◌, ◌++◌, Option, Some, None, Result, Ok, Err}
use Rattle.std.specs.Prelude.{if◌then◌else◌}
use Rattle.avc_types.specs.declared.fault.Fault.{Fault}
use Rattle.avc_types.specs.declared.fault.Fault.TheVariants as faults
use Rattle.avc_annexb.specs.Units.{forbidden_zero_bit, nal_unit_type}
use Rattle.avc_annexb.specs.declared.unit.Unit.{Unit}
use Rattle.avc_annexb.specs.Escapes.{rbsp}
use Rattle.avc_bits.specs.Bits.{Bits, start}
use Rattle.avc_bits.specs.Codes.{ue}
use Rattle.avc_params.specs.Reading.{sps_of, pps_of}
use Rattle.avc_params.specs.declared.set_unit.SetFault.{SetFault}
use Rattle.avc_params.specs.Tables.{Sets, sets_after}
use Rattle.avc_params.specs.declared.set_unit.SetUnit.{SetUnit}
use Rattle.avc_params.specs.declared.set_unit.SetUnit.TheVariants.{OfSps, OfPps}
use Rattle.avc_slice.specs.declared.header.Header.{Header}
use Rattle.avc_slice.specs.declared.slice.Slice.{Slice}
use Rattle.avc_slice.specs.Reading.{header_in_rbsp}
use Rattle.avc_slice.specs.Begins.{begins}
use Rattle.avc_units.specs.declared.step.Next.{Next}
use Rattle.avc_units.specs.declared.step.Next.TheVariants.{Nothing, Refusal, FaultOfOpen}
use Rattle.avc_units.specs.declared.step.Next.TheVariants.{FaultOfOwn, Begins, Continues}
use Rattle.avc_units.specs.declared.step.Step.{Step}

-- ---- kinds of units (Table 7-1)

-- what a unit is for (Table 7-1)
pub data Kind : Type 0 where
  -- type 1, and type 5
  slice : (idr : Bool) → Kind
  -- types 2 to 4
  partition : Kind
  sps : Kind
  pps : Kind
  -- types 6, 9 to 11 and 15 to 18, which end a picture
  boundary : Kind
  -- all others, which change nothing
  other : Kind

-- the kind by nal_unit_type (Table 7-1); which of them end a picture is 7.4.1.2.3, but for type 14,
-- which is this decoder's rule
abbrev pub kind_of : (nal_unit_type : ℕ) → Kind
kind_of t =
    if t == 1 then slice false
    else (if t == 5 then slice true
    else (if nat_le 2 t && nat_le t 4 then partition
    else (if t == 7 then sps
    else (if t == 8 then pps
    else (if (nat_le 6 t && nat_le t 11) || (nat_le 15 t && nat_le t 18) then boundary
    else other)))))

-- the kind of a unit (Table 7-1)
abbrev pub kind : Unit → Kind
kind u = kind_of (nal_unit_type u.header)

-- the RBSP (7.3.1), where the unit is not too long
abbrev pub rbsp_of : Unit → Option (List ℕ)
rbsp_of u = elim u.body [ Some body ↦ Some (rbsp body) | None ↦ None ]

-- ---- parameter sets (7.4.1.2.1)

-- a unit of this kind is read: its body is unescaped
abbrev pub is_read : Kind → Bool
is_read (slice idr) = true
is_read partition = false
is_read sps = true
is_read pps = true
is_read boundary = false
is_read other = false

-- Only of such a unit memory may be wanted: a slice or a parameter set that is not too long (this
-- decoder's rule).
pub record MayWantMemory (u : Unit) : Type 0 where
  pub allowed : forbidden_zero_bit u.header ≡ false
  pub not_too_long : is_some u.body ≡ true
  pub read : is_read (kind u) ≡ true

-- the parameter set in an RBSP of this kind, if it is one
abbrev pub set_of : Kind → Option (List ℕ) → Option SetUnit
set_of sps (Some bytes) = Some (OfSps bytes)
set_of pps (Some bytes) = Some (OfPps bytes)
set_of _ _ = None

-- the parameter set that a unit brings, if it does (7.3.1)
abbrev pub set_unit : Unit → Option SetUnit
set_unit u = if forbidden_zero_bit u.header then None else set_of (kind u) (rbsp_of u)

-- one item or none as a list
abbrev pub list_of : Option SetUnit → List SetUnit
list_of None = []
list_of (Some s) = s ∷ []

-- those that units bring, in their order
abbrev pub set_units : List Unit → List SetUnit
set_units [] = []
set_units (u ∷ units) = list_of (set_unit u) ++ set_units units

-- The parameter sets in force after these units (7.4.1.2.1).
abbrev pub tables : List Unit → Sets
tables units = sets_after (set_units units)

-- the fault of a set that is refused
abbrev pub fault_in : {A : Type 0} → Result A SetFault → Option Fault
fault_in (Ok a) = None
fault_in (Err f) = Some f.fault

-- why a unit that should bring a set does not (this decoder's rule)
abbrev pub set_fault : Kind → Option (List ℕ) → Option Fault
set_fault sps (Some bytes) = fault_in (sps_of bytes)
set_fault pps (Some bytes) = fault_in (pps_of bytes)
set_fault sps None = Some faults.NalTooLong
set_fault pps None = Some faults.NalTooLong
set_fault _ _ = None

-- ---- slices (7.3.3)

-- a slice of its unit's number, its header and its RBSP, or the fault
abbrev pub with_header : Unit → (rbsp : List ℕ) → Result Header Fault → Result Slice Fault
with_header u bytes (Ok h) = Ok (record { unit = u.index; header = h; rbsp = bytes })
with_header u bytes (Err f) = Err f

-- the slice that a unit brings, or why its header cannot be read (7.3.3)
abbrev pub slice_in : Sets → Unit → Result Slice Fault
slice_in sets u =
    elim (rbsp_of u) [
      | None ↦ Err faults.NalTooLong
      | Some bytes ↦ with_header u bytes (header_in_rbsp u.header sets bytes)
    ]

-- 0 is read
abbrev pub reads_zero : Result (ℕ × Bits) Fault → Bool
reads_zero (Ok r) = r.0 == 0
reads_zero (Err f) = false

-- A unit of type 5 whose first_mb_in_slice reads as 0: with it decoding can start (this decoder's
-- rule).
abbrev pub is_start : Unit → Bool
is_start u =
    not (forbidden_zero_bit u.header)
    && nal_unit_type u.header == 5
    && elim (rbsp_of u) [ None ↦ false | Some bytes ↦ reads_zero (ue (start bytes)) ]

-- ---- what a unit does (7.4.1.2.3, 7.4.1.2.4, and this decoder's rules)

-- nothing: the unit is passed over
abbrev pub no_effect : Step
no_effect = record { closes = false; next = Nothing; even_after_fault = false }

-- a fault as an event of its own, if there is one
abbrev pub refusal_of : Option Fault → Next
refusal_of None = Nothing
refusal_of (Some f) = Refusal f

-- an end of the picture (7.4.1.2.3), and then what a parameter set's unit says
abbrev pub ends_picture : Next → Step
ends_picture next = record { closes = true; next = next; even_after_fault = true }

-- A picture is open: the header of its last slice, and whether it is full.
pub record OpenPictureFacts : Type 0 where
  pub last : Header
  pub full : Bool

-- a slice or partition with an unreadable header (this decoder's rule): a fault of the open picture
-- where that is not full, else one of its own
abbrev pub unreadable : Option OpenPictureFacts → Fault → Step
unreadable None f = record { closes = false; next = FaultOfOwn f; even_after_fault = false }
unreadable (Some o) f =
    elim o.full [
      | true ↦ record { closes = true; next = FaultOfOwn f; even_after_fault = false }
      | false ↦ record { closes = false; next = FaultOfOpen f; even_after_fault = false }
    ]

-- A slice that can be read begins a picture or continues the open one (7.4.1.2.4); `starts` says
-- that decoding can start with it.
abbrev pub readable : Option OpenPictureFacts → (starts : Bool) → Slice → Step
readable None starts s = record { closes = false; next = Begins s; even_after_fault = false }
readable (Some o) starts s =
    elim (begins o.last s.header) [
      | true ↦ record { closes = true; next = Begins s; even_after_fault = starts }
      | false ↦ record { closes = false; next = Continues s; even_after_fault = false }
    ]

-- a slice, as its header is read
abbrev pub slice_step : Option OpenPictureFacts → (starts : Bool) → Result Slice Fault → Step
slice_step open_picture starts (Ok s) = readable open_picture starts s
slice_step open_picture starts (Err f) = unreadable open_picture f

-- By its kind, where decoding runs or starts with the unit (7.4.1.2.3; this decoder's rule for
-- faults).
abbrev pub running_step : Sets → Option OpenPictureFacts → Unit → Kind → Step
running_step sets open_picture u (slice idr) =
    slice_step open_picture (is_start u) (slice_in sets u)
running_step sets open_picture u partition = unreadable open_picture faults.DataPartition
running_step sets open_picture u boundary = ends_picture Nothing
running_step sets open_picture u other = no_effect
running_step sets open_picture u sps = ends_picture (refusal_of (set_fault sps (rbsp_of u)))
running_step sets open_picture u pps = ends_picture (refusal_of (set_fault pps (rbsp_of u)))

-- by its kind, where it waits: slices are dropped until one can start (this decoder's rule)
abbrev pub waiting_step : Sets → Unit → Kind → Step
waiting_step sets u (slice idr) =
    elim (is_start u) [
      | true ↦ running_step sets None u (slice idr)
      | false ↦ no_effect
    ]
waiting_step sets u partition = no_effect
waiting_step sets u boundary = running_step sets None u boundary
waiting_step sets u other = running_step sets None u other
waiting_step sets u sps = running_step sets None u sps
waiting_step sets u pps = running_step sets None u pps

-- What a unit does under the parameter sets in force before it, while decoding runs (with the open
-- picture, if there is one) or waits for a picture to start with. One whose forbidden_zero_bit is 1
-- is refused (this decoder's rule).
abbrev pub step : Sets → (running : Bool) → Option OpenPictureFacts → Unit → Step
step sets running open_picture u =
    elim (forbidden_zero_bit u.header) [
      | true ↦ record {
        closes = false;
        next = Refusal faults.ForbiddenBit;
        even_after_fault = true;
      }
      | false ↦ elim running [
        | true ↦ running_step sets open_picture u (kind u)
        | false ↦ waiting_step sets u (kind u)
      ]
    ]
