-- What a grouper stands for.
use Rattle.std.specs.Prelude.{Bool, true, false, ◌&&◌, ◌||◌, List, [], ◌∷◌, ◌++◌, Option, Some}
use Rattle.std.specs.Prelude.{None}
use Rattle.avc_annexb.specs.declared.unit.Unit.{Unit as StreamUnit}
use Rattle.avc_params.specs.Tables.{Sets}
use Rattle.avc_params.specs.declared.set_unit.SetUnit.{SetUnit}
use Rattle.avc_slice.specs.Within.{IsReadUnder}
use Rattle.avc_slice.specs.declared.header.Header.{Header}
use Rattle.avc_slice.specs.declared.slice.Slice.{Slice}
use Rattle.avc_units.specs.Grouping.{OpenPictureFacts, set_units}
use Rattle.avc_units.specs.declared.step.Next.{Next}
use Rattle.avc_units.specs.declared.step.Next.TheVariants.{Begins, Continues}
use Rattle.avc_units.specs.declared.step.Step.{Step}

-- The parameter sets that came, whether decoding runs, the header of the open picture's last slice,
-- whether the unit before begins a picture also where closing was a fault, and whether memory was
-- refused.
pub record GrouperState : Type 0 where
  pub sets : List SetUnit
  pub running : Bool
  pub last : Option Header
  pub restarts : Bool
  pub failed : Bool

-- at the start: waiting, with no set
abbrev pub new_grouper : GrouperState
new_grouper = record { sets = []; running = false; last = None; restarts = false; failed = false }

-- the open picture, where it is full or not
abbrev pub open_picture_of : (full : Bool) → Option Header → Option OpenPictureFacts
open_picture_of full None = None
open_picture_of full (Some h) = Some (record { last = h; full = full })

-- the step begins a picture
abbrev pub begins_a_picture : Next → Bool
begins_a_picture (Begins s) = true
begins_a_picture _ = false

-- The header of the open picture's last slice, after a step in which no fault was found.
abbrev pub last_header_after : (closes : Bool) → Next → Option Header → Option Header
last_header_after closes (Begins s) last = Some s.header
last_header_after closes (Continues s) last = Some s.header
last_header_after true _ last = None
last_header_after false _ last = last

-- the unit and what was made of it are kept
abbrev pub after_step : GrouperState → StreamUnit → Step → GrouperState
after_step g u s = record {
  sets = g.sets ++ set_units (u ∷ []);
  running = g.running || begins_a_picture s.next;
  last = last_header_after s.closes s.next g.last;
  restarts = s.even_after_fault && begins_a_picture s.next;
  failed = false;
}

-- After a fault decoding waits; but where the fault was found at closing, and the unit begins a
-- picture all the same, that one is open.
abbrev pub after_fault : (closing : Bool) → GrouperState → GrouperState
after_fault closing g =
    elim (g.restarts && closing) [
      | true ↦ g
      | false ↦ record g { running = false; last = None; restarts = false }
    ]

-- The slice's header was read under these sets (7.3.3).
abbrev pub IsSliceUnder : Sets → Slice → Type 0
IsSliceUnder sets s = IsReadUnder sets s.rbsp s.header

-- what holds of the slice that a step brings
abbrev pub IfSlice : Next → (Slice → Type 0) → Type 0
IfSlice (Begins s) holds = holds s
IfSlice (Continues s) holds = holds s
IfSlice _ holds = Unit {0}
