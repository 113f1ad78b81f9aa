-- Laws of whole streams: where decoding may begin anew, and what the numbers of units are for.
use Rattle.std.specs.Prelude.{◌≡◌, ℕ, ◌+◌, ◌-◌, ◌^◌, ◌<◌, Bool, true, false, List, [], ◌∷◌, ◌++◌}
use Rattle.std.specs.Prelude.{length, map, take, drop, Ok, Some, slice_get, IsTrue, None}
use Rattle.std.specs.List.{list_all}
use Rattle.avc_types.specs.declared.references.Marking.TheVariants.{Idr}
use Rattle.avc_annexb.specs.Laws.{contents}
use Rattle.avc_annexb.specs.Units.{units}
use Rattle.avc_annexb.specs.declared.unit.Unit.{Unit as Piece}
use Rattle.avc_dpb.specs.declared.output.Output.{Output}
use Rattle.avc_params.specs.Tables.{sets_after}
use Rattle.avc_slice.specs.declared.slice.Slice.{Slice}
use Rattle.avc_units.specs.Grouping.{is_start, slice_in, step, tables}
use Rattle.avc_units.specs.Resuming.{sets_in_force, resumed}
use Rattle.avc_units.specs.declared.step.Step.{Step}
use Rattle.avc_decoder.specs.Events.{Phase, State, waiting, running, first_state, closed_picture}
use Rattle.avc_decoder.specs.Events.{events_from, events, is_running}
use Rattle.avc_decoder.specs.Events.{at_end, open_facts_in, state_through}
use Rattle.avc_decoder.specs.SeenEvents.{Event}
use Rattle.avc_decoder.specs.declared.event.Event.TheVariants.{Picture, Refused}

-- what the unit does after those before it
abbrev pub step_at : State → Piece → Step
step_at s u = step (sets_after s.sets) (is_running s.phase) (open_facts_in s.phase) u

-- Decoding waits for a unit to start with, or the unit closes the open picture, that is a fault,
-- and it begins one all the same.
abbrev pub CanStart : Output → Step → Phase → Type 0
CanStart output what waiting = Unit {0}
CanStart output what (running h None) = ⊥
CanStart output what (running h (Some o)) =
    (what.closes ≡ true) × ((closed_picture output o).phase ≡ waiting) ×
    (what.even_after_fault ≡ true)

-- the events of that closing: the held pictures and the refusal
abbrev pub closing_events : Output → Phase → List Event
closing_events output waiting = []
closing_events output (running h None) = []
closing_events output (running h (Some o)) = (closed_picture output o).events

-- Decoding starts running with unit k: it waits before it, or waits once the unit has closed a
-- faulty picture.
pub record StartsAt (output : Output) (all : List Piece) (k : ℕ) : Type 0 where
  pub unit : Piece
  pub is_there : slice_get all k ≡ Some unit
  pub waits :
      let s = state_through (first_state output) (take k all) in
      CanStart s.output (step_at s unit) s.phase
  pub starts : IsTrue (is_start unit)

-- the same event of units with other numbers: of each number the one that is given
abbrev pub renumbered_event : (ℕ → ℕ) → Event → Event
renumbered_event number (Picture p) =
    Picture (record p { info = record p.info { unit = number (p.info).unit } })
renumbered_event number (Refused unit f) = Refused (number unit) f

-- unit numbers of a stream that begins with m parameter sets and then unit k, as those of the whole
abbrev pub renumbered : (m k : ℕ) → Event → Event
renumbered m k event = renumbered_event (λ unit. unit + k - m) event

-- the events without the numbers of units
abbrev pub unnumbered : List Event → List Event
unnumbered events = map (renumbered_event (λ unit. 0)) events

-- The number of each unit is below the greatest u64, so that none is cut off.
abbrev pub HaveOwnNumbers : List Piece → Type 0
HaveOwnNumbers all = (n : ℕ) (u : Piece) → slice_get all n ≡ Some u → u.index < 2 ^ 64 - 1

-- From a unit with which decoding starts, a stream gives what a new decoder gives on the stream
-- from there; before that, what the unit gives by closing a faulty picture. No number of a unit is
-- cut off, nor the offset of that unit.
abbrev pub StartsAnew : Type 0
StartsAnew =
    (output : Output) (max : ℕ) (bytes : List ℕ) (ended : Bool) (k : ℕ) →
    let all = units max bytes ended in
    let s = state_through (first_state output) (take k all) in
    HaveOwnNumbers all → (starts : StartsAt output all k) → (starts.unit).offset < 2 ^ 64 - 1 →
    events_from s (drop k all) ended
    ≡ closing_events s.output s.phase
    ++ map (renumbered (length (sets_in_force (take k all))) k)
    (events output max (resumed max bytes k) ended)

-- the event hands out a picture, and refuses none
abbrev pub is_picture : Event → Bool
is_picture (Picture p) = true
is_picture (Refused unit f) = false

-- But for the numbers that they name, the events do not depend on the numbers of units, nor on how
-- the parameter sets came into force.
abbrev pub EventsKeepButNumbers : Type 0
EventsKeepButNumbers =
    (s s' : State) (us us' : List Piece) →
    s'.output ≡ s.output → s.phase ≡ waiting → s'.phase ≡ waiting →
    sets_after s'.sets ≡ sets_after s.sets →
    map contents us ≡ map contents us' →
    unnumbered (events_from s' us' true) ≡ unnumbered (events_from s us true)

-- no_output_of_prior_pics_flag of the IDR picture that begins with this unit is 0 (7.4.3.3).
abbrev pub LetsPriorPicturesOut : (before : List Piece) → Piece → Type 0
LetsPriorPicturesOut before u =
    (slice : Slice) (no_output long_term : Bool) →
    slice_in (tables before) u ≡ Ok slice → (slice.header).marking
    ≡ Some (Idr no_output long_term) → no_output ≡ false

-- At a unit with which decoding could start, whose IDR picture lets the pictures before go out
-- where decoding runs, and with no refusal from there on: first comes what the end of the stream
-- would let out there, and then what a new start gives.
abbrev pub StartUnitsBeginAnew : Type 0
StartUnitsBeginAnew =
    (output : Output) (before us : List Piece) (u : Piece) →
    let s = state_through (first_state output) before in
    IsTrue (is_start u) → (is_running s.phase ≡ true → LetsPriorPicturesOut before u) →
    IsTrue (list_all is_picture (events_from s (u ∷ us) true)) →
    events_from s (u ∷ us) true ≡ at_end s.output s.phase
    ++ events_from (record s { phase = waiting }) (u ∷ us) true
