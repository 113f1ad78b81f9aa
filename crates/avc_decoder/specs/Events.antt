-- What a stream's units hand out: pictures and refusals, in order. Pictures go out by C.4; what is
-- said of refusals is this decoder's rule.
use Rattle.std.specs.Prelude.{ℕ, ◌+◌, ◌-◌, Bool, true, false, not, ◌&&◌, List, [], ◌∷◌, ◌++◌, map}
use Rattle.std.specs.Prelude.{Option, Some, None, Result, Ok, Err}
use Rattle.avc_types.specs.declared.fault.Fault.{Fault}
use Rattle.avc_types.specs.declared.picture.Picture.{Picture as Decoded}
use Rattle.avc_annexb.specs.Units.{units, saturated}
use Rattle.avc_annexb.specs.declared.unit.Unit.{Unit}
use Rattle.avc_params.specs.declared.sps.Sps.{Sps}
use Rattle.avc_params.specs.declared.pps.Pps.{Pps}
use Rattle.avc_params.specs.Tables.{Sets, sets_after}
use Rattle.avc_params.specs.declared.set_unit.SetUnit.{SetUnit}
use Rattle.avc_slice.specs.declared.header.Header.{Header}
use Rattle.avc_slice.specs.declared.slice.Slice.{Slice}
use Rattle.avc_units.specs.Grouping.{OpenPictureFacts, step, set_units}
use Rattle.avc_units.specs.declared.step.Next.{Next}
use Rattle.avc_units.specs.declared.step.Next.TheVariants.{Nothing, Refusal, FaultOfOpen}
use Rattle.avc_units.specs.declared.step.Next.TheVariants.{FaultOfOwn, Begins, Continues}
use Rattle.avc_units.specs.declared.step.Step.{Step}
use Rattle.avc_picture.specs.Slices.{is_full}
use Rattle.avc_dpb.specs.declared.output.Output.{Output}
use Rattle.avc_decoder_core.specs.History.{History}
use Rattle.avc_decoder_core.specs.Pictures.{output_pictures, held_pictures, output_at_closing}
use Rattle.avc_decoder.specs.FirstFault.{OpenPicture, first_fault, first_header, history_of}
use Rattle.avc_decoder.specs.FirstFault.{read_of, start_on, progress_on, closed_history}
use Rattle.avc_decoder.specs.SeenEvents.{Event}
use Rattle.avc_decoder.specs.declared.event.Event.TheVariants.{Picture, Refused}

-- pictures as events
abbrev pub pictures : List Decoded → List Event
pictures out = map (λ p. Picture p) out

-- the pictures among events, in order
abbrev pub pictures_in : List Event → List Decoded
pictures_in [] = []
pictures_in (Picture p ∷ events) = p ∷ pictures_in events
pictures_in (Refused unit f ∷ events) = pictures_in events

-- the refusals among them, in order: numbers of units, and faults
abbrev pub refusals_in : List Event → List (ℕ × Fault)
refusals_in [] = []
refusals_in (Picture p ∷ events) = refusals_in events
refusals_in (Refused unit f ∷ events) = (unit, f) ∷ refusals_in events

-- ---- the state between units (this decoder's rule)

-- what decoding waits for, or goes on with
pub data Phase : Type 0 where
  -- for a unit to start with
  waiting : Phase
  -- with the history of the coded video sequence, and the open picture, if there is one
  running : History → Option OpenPicture → Phase

-- the open picture, if there is one
abbrev pub picture_of_phase : Phase → Option OpenPicture
picture_of_phase waiting = None
picture_of_phase (running h o) = o

-- when pictures go out, and what the units before leave
pub record State : Type 0 where
  pub output : Output
  -- the units that brought parameter sets, in order
  pub sets : List SetUnit
  pub phase : Phase

-- before the first unit
abbrev pub first_state : Output → State
first_state output = record { output = output; sets = []; phase = waiting }

-- What one step gives: events, and what follows it; and how many macroblocks were read in it.
pub record Outcome : Type 0 where
  pub events : List Event
  pub phase : Phase
  pub read : ℕ

-- no events, and nothing read
abbrev pub no_change : Phase → Outcome
no_change p = record { events = []; phase = p; read = 0 }

-- a fault in a picture: all held pictures go out, then the refusal, and decoding waits
abbrev pub failed_at : Output → History → (unit : ℕ) → Fault → (read : ℕ) → Outcome
failed_at output h unit f read = record {
  events = pictures (held_pictures output h) ++ Refused unit f ∷ [];
  phase = waiting;
  read = read;
}

-- ---- closing the open picture (8.2.5, C.4.4, C.4.5, and this decoder's rule for faults)

-- a fault is named with the last slice's unit
abbrev pub at_last_slice : OpenPicture → Result History Fault → Result History (ℕ × Fault)
at_last_slice o (Ok h) = Ok h
at_last_slice o (Err f) = Err ((o.last).unit, f)

-- its fault, or the history with it
abbrev pub closing_result : OpenPicture → Result History (ℕ × Fault)
closing_result o =
    elim (first_fault o true) [
      | Some found ↦ Err found
      | None ↦ at_last_slice o (closed_history o (history_of o))
    ]

-- what closing gives: the pictures that go out (C.4.4, C.4.5), or the refusal
abbrev pub closed_outcome : Output → OpenPicture → Result History (ℕ × Fault) → Outcome
closed_outcome output o (Ok h) = record {
  events = pictures (output_at_closing output (first_header o) (history_of o) h);
  phase = running h None;
  read = 0;
}
closed_outcome output o (Err found) = failed_at output (history_of o) found.0 found.1 0

-- the open picture is closed
abbrev pub closed_picture : Output → OpenPicture → Outcome
closed_picture output o = closed_outcome output o (closing_result o)

-- ---- a slice of the open picture (C.4.2, and this decoder's rule for faults)

-- The picture with one slice more, of which the history before was `before` and so many macroblocks
-- had been read. At a fault all pictures go out that `before` holds: first those that missing
-- numbers let out, then the rest, which is one order.
abbrev pub with_slice : Output → (before : History) → (already : ℕ) → OpenPicture → Outcome
with_slice output before already o =
    elim (first_fault o false) [
      | Some found ↦ failed_at output before found.0 found.1 (read_of o - already)
      | None ↦ record {
        events = pictures (output_pictures output before (history_of o));
        phase = running o.before (Some o);
        read = read_of o - already;
      }
    ]

-- two values, where both are there
abbrev pub both : {A B : Type 0} → Option A → Option B → Option (A × B)
both (Some a) (Some b) = Some (a, b)
both (Some a) None = None
both None b = None

-- the sets that a readable header names, where both are there (7.4.1.2.1)
abbrev pub sets_named : Sets → Header → Option (Pps × Sps)
sets_named sets h =
    elim (sets.pps h.pic_parameter_set_id) [
      | None ↦ None
      | Some pps ↦ both (Some pps) (sets.sps pps.seq_parameter_set_id)
    ]

-- a slice that begins a picture, under the sets that it names
abbrev pub after_first_slice : Output → Option (Pps × Sps) → History → Slice → Outcome
after_first_slice output None before s = no_change (running before None)
after_first_slice output (Some named) before s =
    with_slice output before 0 (record {
      before = before;
      sps = named.1;
      pps = named.0;
      last = s;
      earlier = [];
    })

-- ---- one unit (7.4.1.2, and this decoder's rule for faults)

-- the history whose held pictures go out at a fault
abbrev pub history_in : Phase → History
history_in waiting = []
history_in (running h None) = h
history_in (running h (Some o)) = history_of o

-- the history that a new picture is decoded on
abbrev pub base_in : Phase → History
base_in waiting = []
base_in (running h o) = h

-- a slice that continues the open picture
abbrev pub after_next_slice : Output → Phase → Slice → Outcome
after_next_slice output (running h (Some o)) s =
    with_slice output (history_of o) (read_of o) (record o {
      last = s;
      earlier = o.last ∷ o.earlier;
    })
after_next_slice output p s = no_change p

-- what the unit with this number does next
abbrev pub after_next : Output → Sets → (unit : ℕ) → Phase → Next → Outcome
after_next output sets unit p Nothing = no_change p
after_next output sets unit p (Refusal f) = record {
  events = Refused unit f ∷ [];
  phase = p;
  read = 0;
}
after_next output sets unit p (FaultOfOpen f) = failed_at output (history_in p) unit f 0
after_next output sets unit p (FaultOfOwn f) = failed_at output (history_in p) unit f 0
after_next output sets unit p (Begins s) =
    after_first_slice output (sets_named sets s.header) (base_in p) s
after_next output sets unit p (Continues s) = after_next_slice output p s

-- decoding runs
abbrev pub is_running : Phase → Bool
is_running waiting = false
is_running (running h o) = true

-- what the next unit asks of the open picture: its last header, and whether it is full
abbrev pub open_picture_facts : OpenPicture → OpenPictureFacts
open_picture_facts o =
    record {
      last = (o.last).header;
      full = is_full (start_on o (history_of o)) (progress_on o (history_of o));
    }

-- those of the open picture, if there is one
abbrev pub open_facts_in : Phase → Option OpenPictureFacts
open_facts_in waiting = None
open_facts_in (running h None) = None
open_facts_in (running h (Some o)) = Some (open_picture_facts o)

-- the events of a first outcome stand before those of a second
abbrev pub followed_by : Outcome → Outcome → Outcome
followed_by a b = record { events = a.events ++ b.events; phase = b.phase; read = a.read + b.read }

-- decoding waits
abbrev pub is_waiting : Phase → Bool
is_waiting waiting = true
is_waiting (running h o) = false

-- After the open picture has been closed: what the step says, unless that was a fault and the step
-- says nothing then.
abbrev pub after_closing : Output → Sets → (unit : ℕ) → Step → Outcome → Outcome
after_closing output sets unit what o =
    elim (is_waiting o.phase && not what.even_after_fault) [
      | true ↦ o
      | false ↦ followed_by o (after_next output sets unit o.phase what.next)
    ]

-- what the step says, by the phase: the open picture is closed first where it says so
abbrev pub in_phase : Output → Sets → (unit : ℕ) → Step → Phase → Outcome
in_phase output sets unit what waiting = after_next output sets unit waiting what.next
in_phase output sets unit what (running h None) =
    after_next output sets unit (running h None) what.next
in_phase output sets unit what (running h (Some o)) =
    elim what.closes [
      | true ↦ after_closing output sets unit what (closed_picture output o)
      | false ↦ after_next output sets unit (running h (Some o)) what.next
    ]

-- One unit more (7.4.1.2, and this decoder's rules).
abbrev pub after_unit : State → Unit → Outcome
after_unit s u =
    let sets = sets_after s.sets in
    in_phase s.output sets u.index (step sets (is_running s.phase) (open_facts_in s.phase) u)
    s.phase

-- what that unit leaves to the next one
abbrev pub state_after : State → Unit → Outcome → State
state_after s u o = record {
  output = s.output;
  sets = s.sets ++ set_units (u ∷ []);
  phase = o.phase;
}

-- the state after some units
abbrev pub state_through : State → List Unit → State
state_through s [] = s
state_through s (u ∷ units) = state_through (state_after s u (after_unit s u)) units

-- all held pictures, where decoding runs
abbrev pub held_after : Output → Phase → List Event
held_after output waiting = []
held_after output (running h o) = pictures (held_pictures output h)

-- the events, and then all held pictures
abbrev pub events_and_held : Output → Outcome → List Event
events_and_held output o = o.events ++ held_after output o.phase

-- the end of a stream that has ended: the open picture is closed and all held pictures go out
abbrev pub at_end : Output → Phase → List Event
at_end output waiting = []
at_end output (running h None) = pictures (held_pictures output h)
at_end output (running h (Some o)) = events_and_held output (closed_picture output o)

-- ---- a whole stream (Annex B)

-- the events of these units after a state; at the end of the stream those of the end too
abbrev pub events_from : State → List Unit → (ended : Bool) → List Event
events_from s [] true = at_end s.output s.phase
events_from s [] false = []
events_from s (u ∷ units) ended =
    let o = after_unit s u in
    o.events ++ events_from (state_after s u o) units ended

-- the events of a stream of these bytes (Annex B), where a unit has max bytes at most
abbrev pub events : Output → (max : ℕ) → List ℕ → (ended : Bool) → List Event
events output max bytes ended = events_from (first_state output) (units max bytes ended) ended

-- how many macroblocks of slices are read
abbrev pub read_from : State → List Unit → ℕ
read_from s [] = 0
read_from s (u ∷ units) =
    let o = after_unit s u in
    o.read + read_from (state_after s u o) units

-- how many macroblocks of a stream of these bytes are read, as far as a u64 counts (this decoder's
-- rule)
abbrev pub turns : Output → (max : ℕ) → List ℕ → (ended : Bool) → ℕ
turns output max bytes ended = saturated (read_from (first_state output) (units max bytes ended))
