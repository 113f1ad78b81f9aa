-- Early output and full output of one stream.
use Rattle.std.specs.Prelude.{◌≡◌, ℕ, ◌&&◌, Bool, true, false, if◌then◌else◌, All, List, [], ◌∷◌}
use Rattle.std.specs.Prelude.{◌++◌, Some, None, Result, Ok, Err}
use Rattle.avc_types.specs.declared.fault.Fault.{Fault}
use Rattle.avc_annexb.specs.Units.{units}
use Rattle.avc_annexb.specs.declared.unit.Unit.{Unit}
use Rattle.avc_dpb.specs.declared.output.Output.{Output}
use Rattle.avc_dpb.specs.declared.output.Output.TheVariants.{Full, Early}
use Rattle.avc_params.specs.Tables.{sets_after}
use Rattle.avc_units.specs.Grouping.{step}
use Rattle.avc_decoder_core.specs.History.{History}
use Rattle.avc_slice.specs.Header.{is_idr}
use Rattle.avc_decoder_core.specs.Pictures.{no_output_of_prior_pics}
use Rattle.avc_decoder_core.specs.SequenceOrder.{RespectsReorderNumbers}
use Rattle.avc_decoder.specs.FirstFault.{OpenPicture, first_header, history_of}
use Rattle.avc_decoder.specs.Events.{Phase, State, waiting, running, after_unit, closed_picture}
use Rattle.avc_decoder.specs.Events.{closing_result, events, first_state, history_in, is_running}
use Rattle.avc_decoder.specs.Events.{is_waiting, open_facts_in, pictures_in, refusals_in}
use Rattle.avc_decoder.specs.Events.{state_after}
use Rattle.avc_decoder.specs.SeenEvents.{Event}

-- ---- the coded video sequences of a stream (7.4.1.2.2)

-- The history of a coded video sequence that is over, and whether what it held was dropped: by
-- no_output_of_prior_pics_flag of the IDR picture with which the next one begins (C.4.4).
pub record EndedSequence : Type 0 where
  pub history : History
  pub dropped : Bool

-- that with this history, where it has any pictures
abbrev pub ended_sequence : History → (dropped : Bool) → List EndedSequence
ended_sequence [] dropped = []
ended_sequence (e ∷ older) dropped = record { history = e ∷ older; dropped = dropped } ∷ []

-- the sequence that ends where the open picture is closed: that before an IDR picture, and at a
-- fault that which is held
abbrev pub ended_by_closing : OpenPicture → Result History (ℕ × Fault) → List EndedSequence
ended_by_closing o (Ok h) =
    elim (is_idr (first_header o)) [
      | true ↦ ended_sequence (history_of o) (no_output_of_prior_pics (first_header o).marking)
      | false ↦ []
    ]
ended_by_closing o (Err found) = ended_sequence (history_of o) false

-- the same, where a picture is open and is to be closed
abbrev pub ended_at_closing : (closes : Bool) → Phase → List EndedSequence
ended_at_closing closes waiting = []
ended_at_closing closes (running h None) = []
ended_at_closing closes (running h (Some o)) =
    elim closes [
      | true ↦ ended_by_closing o (closing_result o)
      | false ↦ []
    ]

-- the phase once the open picture is closed, if there is one and it is to be
abbrev pub phase_after_closing : Output → (closes : Bool) → Phase → Phase
phase_after_closing output closes waiting = waiting
phase_after_closing output closes (running h None) = running h None
phase_after_closing output closes (running h (Some o)) =
    elim closes [ true ↦ (closed_picture output o).phase | false ↦ running h (Some o) ]

-- the sequence in which decoding stopped, where it ran and then waits
abbrev pub stopped : (before after : Phase) → List EndedSequence
stopped before after =
    if is_running before && is_waiting after then ended_sequence (history_in before) false else []

-- The sequences that end with one unit: where it closes the open picture, and where decoding stops
-- by what it does then.
abbrev pub ended_by_unit : State → Unit → List EndedSequence
ended_by_unit s u =
    let what = step (sets_after s.sets) (is_running s.phase) (open_facts_in s.phase) u in
    ended_at_closing what.closes s.phase
    ++ stopped (phase_after_closing s.output what.closes s.phase) (after_unit s u).phase

-- those that end with the stream, which closes the open picture
abbrev pub ended_at_end : State → List EndedSequence
ended_at_end s =
    ended_at_closing true s.phase ++ stopped (phase_after_closing s.output true s.phase) waiting

-- those that end with these units after a state, and with the end of the stream
abbrev pub sequences_from : State → List Unit → List EndedSequence
sequences_from s [] = ended_at_end s
sequences_from s (u ∷ units) =
    ended_by_unit s u ++ sequences_from (state_after s u (after_unit s u)) units

-- The coded video sequences of a whole stream, each with all its pictures and missing frame
-- numbers: one ends where an IDR picture is closed, at a fault, and with the stream. They do not
-- depend on when pictures go out.
abbrev pub sequences : (max : ℕ) → (bytes : List ℕ) → List EndedSequence
sequences max bytes = sequences_from (first_state Full) (units max bytes true)

-- none of its pictures was dropped (7.4.3.3)
abbrev pub IsNotDropped : EndedSequence → Type 0
IsNotDropped s = s.dropped ≡ false

-- Its pictures are reordered no further than max_num_reorder_frames says (E.2.1).
abbrev pub IsReorderedWithin : EndedSequence → Type 0
IsReorderedWithin s = RespectsReorderNumbers s.history

-- ---- the law

-- the same pictures in the same order, and the same refusals in theirs
pub record HandsOutTheSame (early full : List Event) : Type 0 where
  pub pictures : pictures_in early ≡ pictures_in full
  pub refusals : refusals_in early ≡ refusals_in full

-- Where a stream respects its numbers of reordered pictures (E.2.1) and drops none, both modes hand
-- out the same.
abbrev pub EarlyOutputKeepsPictures : Type 0
EarlyOutputKeepsPictures =
    (max : ℕ) (bytes : List ℕ) → All IsNotDropped (sequences max bytes) →
    All IsReorderedWithin (sequences max bytes) →
    HandsOutTheSame (events Early max bytes true) (events Full max bytes true)
