-- The marks of frames in decoding order, and what a call makes of them.
use Rattle.std.specs.Prelude.{ℕ, ◌<◌, Bool, true, false, not, ◌||◌, nat_lt, List, [], ◌∷◌, ◌++◌}
use Rattle.std.specs.Prelude.{length, Option, None, Some, slice_index_or, Result, Ok, Err, ◌≡◌}
use Rattle.std.specs.Option.{option_map}
use Rattle.std.specs.List.Sorted.{IsStrictlyIncreasing}
use Rattle.avc_types.specs.declared.current_frame_num.CurrentFrameNum.{CurrentFrameNum}
use Rattle.avc_types.specs.declared.fault.Fault.{Fault}
use Rattle.avc_types.specs.declared.marked_frame.MarkedFrame.{MarkedFrame}
use Rattle.avc_types.specs.declared.references.Mark.{Mark}
use Rattle.avc_types.specs.declared.references.Marking.{Marking}
use Rattle.avc_types.specs.References.{Reference, StandAt, references_at, reference_at}
use Rattle.avc_types.specs.References.{reference_of, result_map, is_marked, is_short}
use Rattle.avc_types.specs.References.{long_term_frame_idx, has_long_term_frame_idx, no_frame}
use Rattle.avc_marking.specs.declared.frame.NewFrame.{NewFrame}
use Rattle.avc_marking.specs.declared.frame.FramesToUnmark.{FramesToUnmark}
use Rattle.avc_marking.specs.declared.frame.FramesToUnmark.TheVariants.{Index, From, Every}
use Rattle.avc_marking.specs.Marks.{MarkingEntry, Marks, OperationState, precedes_in_window}
use Rattle.avc_marking.specs.Marks.{with_current_frame, without_frame}

-- what marking asks of the new frame
abbrev pub marking_entry : NewFrame → Option Marking → MarkingEntry
marking_entry new marking = record {
  current = new.current;
  max_num_ref_frames = new.max_num_ref_frames;
  existing = new.existing;
  marking = marking;
}

-- The frames are these entries of the history, in decoding order, and a later entry is the new
-- frame.
pub record StandBefore (indices : List ℕ) (decoding_index : ℕ)
    (frames : List MarkedFrame) : Type 0 where
  pub each : length indices ≡ length frames
  pub rising : IsStrictlyIncreasing (indices ++ decoding_index ∷ [])

-- the frame of an entry with this mark and its own frame_num
abbrev pub marked_frame : MarkingEntry → (decoding_index : ℕ) → Mark → Reference
marked_frame s decoding_index mark = record {
  decoding_index = decoding_index;
  frame_num = s.current.frame_num;
  existing = s.existing;
  mark = mark;
}

-- the marks of frames that are these entries of the history
abbrev pub marks_at : (indices : List ℕ) → List MarkedFrame → (idx : Option ℕ) → Marks
marks_at indices frames idx = record {
  references = references_at indices frames;
  max_long_term_frame_idx = idx;
}

-- The call's answer with what it has left, where that was no fault.
abbrev pub or_fault : {A B : Type 0} → Result A Fault → B → Result B Fault
or_fault (Ok done) left = Ok left
or_fault (Err f) left = Err f

-- ---- while the operations of a picture are gone through

-- the entries of the frames: the picture's own frame has come to them once it is assigned
abbrev pub indices_with : (assigned : Bool) → (indices : List ℕ) → (own : ℕ) → List ℕ
indices_with true indices own = indices ++ own ∷ []
indices_with false indices own = indices

-- The frames are these entries of the history, and the picture's own one once that is assigned.
pub record StandWith (assigned : Bool) (indices : List ℕ) (own : ℕ)
    (frames : List MarkedFrame) : Type 0 where
  pub each : length (indices_with assigned indices own) ≡ length frames
  pub rising : IsStrictlyIncreasing (indices ++ own ∷ [])

-- the marks of these frames while the operations are gone through (8.2.5.4)
abbrev pub operation_state : (indices : List ℕ) → (own : ℕ) → List MarkedFrame →
    (idx : Option ℕ) → (assigned : Bool) → OperationState
operation_state indices own frames idx assigned = record {
  references = references_at (indices_with assigned indices own) frames;
  max_long_term_frame_idx = idx;
  assigned = assigned;
}

-- the frames that become unused
abbrev pub is_to_unmark : FramesToUnmark → Reference → Bool
is_to_unmark (Index index) r = has_long_term_frame_idx index r
is_to_unmark (From index) r = not (is_short r || nat_lt (long_term_frame_idx r) index)
is_to_unmark Every r = true

-- a frame unused for reference
abbrev pub unmarked : MarkedFrame → MarkedFrame
unmarked f = record f { mark = None }

-- a frame that becomes so if it passes the test
abbrev pub unmarked_if : (Reference → Bool) → MarkedFrame → MarkedFrame
unmarked_if test f = elim (is_marked test f) [ true ↦ unmarked f | false ↦ f ]

-- ---- what a call makes of frames, whichever entries of the history they are

-- so many of them are used for reference
abbrev pub CountsReferences : List MarkedFrame → (count : ℕ) → Type 0
CountsReferences frames count =
    (indices : List ℕ) → StandAt indices frames → count ≡ length (references_at indices frames)

-- each frame that passes the test has become unused for reference
abbrev pub UnmarksEach : (Reference → Bool) → (old new : List MarkedFrame) → Type 0
UnmarksEach test old new =
    (k : ℕ) → k < length old → slice_index_or new k no_frame
    ≡ unmarked_if test (slice_index_or old k no_frame)

-- The reference frames are what `change` makes of those before.
abbrev pub ChangesFrames : (change : List Reference → List Reference) →
    (old new : List MarkedFrame) → Type 0
ChangesFrames change old new =
    (indices : List ℕ) → StandAt indices old → references_at indices new
    ≡ change (references_at indices old)

-- the frame at a place is no more among them
abbrev pub UnmarksPlace : (place : ℕ) → (old new : List MarkedFrame) → Type 0
UnmarksPlace place old new =
    (indices : List ℕ) → StandAt indices old →
    references_at indices new
    ≡ without_frame (reference_at indices old place) (references_at indices old)

-- They are what `change` makes of those before, or the call has its fault.
abbrev pub MayChangeFrames : (change : List Reference → Result (List Reference) Fault) →
    (old : List MarkedFrame) → Result (Unit {0}) Fault → (new : List MarkedFrame) → Type 0
MayChangeFrames change old result new =
    (indices : List ℕ) → StandAt indices old →
    change (references_at indices old) ≡ or_fault result (references_at indices new)

-- The current picture's frame has come last, and the reference frames are what `change` makes of
-- its entry and those before.
abbrev pub AddsFrame : (change : ℕ → List Reference → List Reference) →
    (old new : List MarkedFrame) → Type 0
AddsFrame change old new =
    (indices : List ℕ) (decoding_index : ℕ) → StandBefore indices decoding_index old →
    references_at (indices ++ decoding_index ∷ []) new
    ≡ change decoding_index (references_at indices old)

-- `step` takes the state of operations from the frames before to those after, or the call has its
-- fault.
abbrev pub Operates : (assigned : Bool) →
    (step : ℕ → OperationState → Result OperationState Fault) →
    (old : List MarkedFrame) (old_idx : Option ℕ) → Result Bool Fault →
    (new : List MarkedFrame) (new_idx : Option ℕ) → Type 0
Operates assigned step old old_idx result new new_idx =
    (indices : List ℕ) (own : ℕ) → StandWith assigned indices own old →
    step own (operation_state indices own old old_idx assigned)
    ≡ result_map (operation_state indices own new new_idx) result

-- the same from before the first operation
abbrev pub OperatesAll : (steps : ℕ → OperationState → Result OperationState Fault) →
    (old : List MarkedFrame) (old_idx : Option ℕ) → Result Bool Fault →
    (new : List MarkedFrame) (new_idx : Option ℕ) → Type 0
OperatesAll steps old old_idx result new new_idx =
    (indices : List ℕ) (own : ℕ) → StandBefore indices own old →
    steps own (operation_state indices own old old_idx false)
    ≡ result_map (operation_state indices own new new_idx) result

-- The current picture's frame stands last, and is short-term where the operations have not marked
-- it.
abbrev pub MarksCurrent : MarkingEntry → (assigned : Bool) → (old new : List MarkedFrame) → Type 0
MarksCurrent s assigned old new =
    (indices : List ℕ) (decoding_index : ℕ) (idx : Option ℕ) →
    StandWith assigned indices decoding_index old →
    with_current_frame s decoding_index (operation_state indices decoding_index old idx assigned)
    ≡ marks_at (indices ++ decoding_index ∷ []) new idx

-- The current picture's frame has come last, and the marks are what `marking` makes of its entry
-- and those before; or the call has its fault.
abbrev pub MarksFrame : (marking : ℕ → Marks → Result Marks Fault) →
    (old : List MarkedFrame) (old_idx : Option ℕ) → Result (Unit {0}) Fault →
    (new : List MarkedFrame) (new_idx : Option ℕ) → Type 0
MarksFrame marking old old_idx result new new_idx =
    (indices : List ℕ) (decoding_index : ℕ) → StandBefore indices decoding_index old →
    marking decoding_index (marks_at indices old old_idx)
    ≡ or_fault result (marks_at (indices ++ decoding_index ∷ []) new new_idx)

-- ---- the sliding window

-- Of two frames, whether `later`, which was decoded after `earlier`, becomes unused first,
-- whichever entries they are.
abbrev pub LaterPrecedes : CurrentFrameNum → (later earlier : MarkedFrame) → Bool → Type 0
LaterPrecedes current later earlier does =
    (e e' : ℕ) → e' < e →
    does ≡ precedes_in_window current (reference_of e later) (reference_of e' earlier)

-- of one frame and the first of those that were decoded later
abbrev pub first_in_window_of : CurrentFrameNum → Reference → Option Reference → Option Reference
first_in_window_of current r None = Some r
first_in_window_of current r (Some other) =
    elim (precedes_in_window current other r) [ true ↦ Some other | false ↦ Some r ]

-- whether the frame at a place is a short-term reference
abbrev pub IsShortAt : List MarkedFrame → (place : ℕ) → Bool → Type 0
IsShortAt frames place is = is_marked is_short (slice_index_or frames place no_frame) ≡ is

-- the same of places
abbrev pub IsFirstOf : CurrentFrameNum → List MarkedFrame → (place : ℕ) (later first : Option ℕ) →
    Type 0
IsFirstOf current frames place later first =
    (indices : List ℕ) → StandAt indices frames →
    option_map (reference_at indices frames) first
    ≡ first_in_window_of current (reference_at indices frames place)
    (option_map (reference_at indices frames) later)
