-- How frames are marked for reference (8.2.5), and gaps in frame_num (8.2.5.2), from the history. A
-- history is written with its newest entry first.
use Rattle.std.specs.Prelude.{◌≡◌, ℕ, zero, suc, ◌+◌, ◌-◌, ◌%◌, ◌<◌, pos, ◌-ℤ◌, Bool, true, false}
use Rattle.std.specs.Prelude.{not, ◌==◌, ◌&&◌, ◌||◌, nat_lt, nat_le, max, if◌then◌else◌, List, []}
use Rattle.std.specs.Prelude.{◌∷◌, ◌++◌, length, map, Option, Some, None, is_some, slice_get}
use Rattle.std.specs.Prelude.{Result, Ok, Err}
use Rattle.std.specs.List.{filter, list_any}
use Rattle.avc_types.specs.declared.current_frame_num.CurrentFrameNum.{CurrentFrameNum}
use Rattle.avc_types.specs.declared.fault.Fault.{Fault}
use Rattle.avc_types.specs.declared.fault.Fault.TheVariants as faults
use Rattle.avc_types.specs.declared.references.Mark.{Mark}
use Rattle.avc_types.specs.declared.references.Mark.TheVariants.{Short, Long}
use Rattle.avc_types.specs.declared.references.Marking.{Marking}
use Rattle.avc_types.specs.declared.references.Marking.TheVariants.{Idr, SlidingWindow, Adaptive}
use Rattle.avc_types.specs.declared.references.Operation.{Operation}
use Rattle.avc_types.specs.declared.references.Operation.TheVariants.{UnmarkShortTerm}
use Rattle.avc_types.specs.declared.references.Operation.TheVariants.{UnmarkLongTerm}
use Rattle.avc_types.specs.declared.references.Operation.TheVariants.{AssignLongTerm}
use Rattle.avc_types.specs.declared.references.Operation.TheVariants.{MaxLongTermFrameIdx}
use Rattle.avc_types.specs.declared.references.Operation.TheVariants.{UnmarkAll, CurrentToLongTerm}
use Rattle.avc_types.specs.References.{Reference, is_short, long_term_frame_idx}
use Rattle.avc_types.specs.References.{has_long_term_frame_idx, short_term_frame, long_term_frame}
use Rattle.avc_types.specs.References.{sorted_by, has_greater_pic_num}
use Rattle.avc_types.specs.Results.{◌>>=◌}

-- What marking asks of an entry of the history: a closed picture, or a frame that stands for a
-- missing frame number (8.2.5.2). Such a frame is not existing and has the marking `sliding`.
pub record MarkingEntry : Type 0 where
  -- its frame_num, and MaxFrameNum and max_num_ref_frames of its sequence parameter set
  pub current : CurrentFrameNum
  pub max_num_ref_frames : ℕ
  pub existing : Bool
  -- dec_ref_pic_marking; none where nal_ref_idc is 0
  pub marking : Option Marking

-- The reference frames in decoding order, and MaxLongTermFrameIdx, if there may be long-term frames
-- (8.2.5).
pub record Marks : Type 0 where
  pub references : List Reference
  pub max_long_term_frame_idx : Option ℕ

-- no reference frames, and no long-term indices (8.2.5.1)
abbrev pub no_marks : Marks
no_marks = record { references = []; max_long_term_frame_idx = None }

-- how many reference frames there may be: Max( max_num_ref_frames, 1 ) (8.2.5.3)
abbrev pub limit_of : MarkingEntry → ℕ
limit_of s = max s.max_num_ref_frames 1

-- the frame where there is one, else the fault (this decoder's rule)
abbrev pub frame_or : Fault → Option Reference → Result Reference Fault
frame_or f (Some r) = Ok r
frame_or f None = Err f

-- x where the test holds, else BadMarking (this decoder's rule)
abbrev pub refuse_unless : {A : Type 0} → Bool → A → Result A Fault
refuse_unless true x = Ok x
refuse_unless false x = Err faults.BadMarking

-- ---- changes of the set (8.2.5.3, 8.2.5.4)

-- this frame becomes unused for reference (8.2.5.3, 8.2.5.4)
abbrev pub without_frame : Reference → List Reference → List Reference
without_frame r references = filter (λ s. not (s.decoding_index == r.decoding_index)) references

-- the frame with this mark (8.2.5.4.3)
abbrev pub with_other_mark : Reference → Mark → Reference
with_other_mark r mark = record r { mark = mark }

-- An index is taken from the frame that has it, which becomes unused (8.2.5.4.3, 8.2.5.4.6).
abbrev pub without_long_term_frame_idx : ℕ → List Reference → List Reference
without_long_term_frame_idx index references =
    filter (λ s. not (has_long_term_frame_idx index s)) references

-- the frames, one of them with this mark (8.2.5.4.3)
abbrev pub with_mark : Reference → Mark → List Reference → List Reference
with_mark r mark references =
    map (λ s. if s.decoding_index == r.decoding_index then with_other_mark s mark else s) references

-- the index is not above MaxLongTermFrameIdx, if there is one (7.4.3.3)
abbrev pub is_index_allowed : ℕ → Option ℕ → Bool
is_index_allowed index None = false
is_index_allowed index (Some max_long_term_frame_idx) = nat_le index max_long_term_frame_idx

-- ---- sliding window (8.2.5.3)

-- a has the smaller PicNum (8.2.5.3), or the same one and was decoded first, which is this
-- decoder's rule
abbrev pub precedes_in_window : CurrentFrameNum → Reference → Reference → Bool
precedes_in_window current a b = has_greater_pic_num current b a

-- the short-term frame with the least PicNum (8.2.5.3)
abbrev pub first_in_window : CurrentFrameNum → List Reference → Option Reference
first_in_window current references =
    slice_get (sorted_by (precedes_in_window current) (filter is_short references)) 0

-- Where there are as many frames as there may be, that one becomes unused for reference (8.2.5.3);
-- TooManyReferences is this decoder's rule.
abbrev pub after_sliding_window : MarkingEntry → List Reference → Result (List Reference) Fault
after_sliding_window s references =
    elim (nat_lt (length references) (limit_of s)) [
      | true ↦ Ok references
      | false ↦
          frame_or faults.TooManyReferences (first_in_window s.current references)
          >>= λ least. Ok (without_frame least references)
    ]

-- ---- operations (8.2.5.4)

-- The marks while the operations of an entry are gone through, and whether the entry's own frame
-- has been marked (8.2.5.4).
pub record OperationState : Type 0 where
  pub references : List Reference
  pub max_long_term_frame_idx : Option ℕ
  pub assigned : Bool

-- the short-term frame with picNumX (8.2.5.4.1)
abbrev pub frame_with_pic_num_x : MarkingEntry → (difference_minus1 : ℕ) → List Reference →
    Result Reference Fault
frame_with_pic_num_x s d references =
    frame_or faults.BadMarking
    (short_term_frame s.current (pos s.current.frame_num -ℤ pos (d + 1)) references)

-- 1: the short-term frame becomes unused (8.2.5.4.1)
abbrev pub without_short_term : MarkingEntry → (difference_minus1 : ℕ) → List Reference →
    Result (List Reference) Fault
without_short_term s d references =
    frame_with_pic_num_x s d references >>= λ r. Ok (without_frame r references)

-- the long-term frame with this LongTermPicNum (8.2.5.4.2)
abbrev pub long_term_frame_or_fault : (index : ℕ) → List Reference → Result Reference Fault
long_term_frame_or_fault index references =
    frame_or faults.BadMarking (long_term_frame index references)

-- 2: the long-term frame becomes unused (8.2.5.4.2)
abbrev pub without_long_term : (index : ℕ) → List Reference → Result (List Reference) Fault
without_long_term index references =
    long_term_frame_or_fault index references >>= λ r. Ok (without_frame r references)

-- 3: the short-term frame becomes long-term (8.2.5.4.3)
abbrev pub with_long_term : MarkingEntry → (difference_minus1 index : ℕ) →
    (max_long_term_frame_idx : Option ℕ) →
    List Reference → Result (List Reference) Fault
with_long_term s d index max_long_term_frame_idx references =
    frame_with_pic_num_x s d references >>= λ r.
    refuse_unless (r.existing && is_index_allowed index max_long_term_frame_idx)
    (with_mark r (Long index) (without_long_term_frame_idx index references))

-- 4: the long-term frames with these indices and greater ones become unused (8.2.5.4.4)
abbrev pub with_max_long_term_frame_idx : (plus1 : ℕ) → List Reference → List Reference
with_max_long_term_frame_idx plus1 references =
    filter (λ r. is_short r || nat_lt (long_term_frame_idx r) plus1) references

-- MaxLongTermFrameIdx from max_long_term_frame_idx_plus1; 0 is no long-term frame indices
-- (8.2.5.4.4)
abbrev pub max_long_term_frame_idx_below : (plus1 : ℕ) → Option ℕ
max_long_term_frame_idx_below zero = None
max_long_term_frame_idx_below (suc max_long_term_frame_idx) = Some max_long_term_frame_idx

-- the state with the frames as an operation has changed them (8.2.5.4)
abbrev pub with_references : OperationState → Result (List Reference) Fault →
    Result OperationState Fault
with_references t changed = changed >>= λ references. Ok (record t { references = references })

-- 6: the picture's own frame (8.2.5.4.6)
abbrev pub long_term_current : MarkingEntry → (decoding_index index : ℕ) → Reference
long_term_current s decoding_index index = record {
  decoding_index = decoding_index;
  frame_num = s.current.frame_num;
  existing = s.existing;
  mark = Long index;
}

-- 6: it becomes long-term (8.2.5.4.6)
abbrev pub with_long_term_current : MarkingEntry → (index decoding_index : ℕ) → List Reference →
    List Reference
with_long_term_current s index decoding_index references =
    without_long_term_frame_idx index references ++ long_term_current s decoding_index index ∷ []

-- One memory_management_control_operation (8.2.5.4, Table 7-9): s is the picture's own entry, of
-- this decoding index. 5 (UnmarkAll) leaves no frame and no long-term indices (8.2.5.4.5).
abbrev pub after_operation : MarkingEntry → (decoding_index : ℕ) → OperationState → Operation →
    Result OperationState Fault
after_operation s decoding_index t (UnmarkShortTerm d) =
    with_references t (without_short_term s d t.references)
after_operation s decoding_index t (UnmarkLongTerm index) =
    with_references t (without_long_term index t.references)
after_operation s decoding_index t (AssignLongTerm d index) =
    with_references t (with_long_term s d index t.max_long_term_frame_idx t.references)
after_operation s decoding_index t (MaxLongTermFrameIdx plus1) =
    refuse_unless (nat_le plus1 s.max_num_ref_frames)
    (record t {
      references = with_max_long_term_frame_idx plus1 t.references;
      max_long_term_frame_idx = max_long_term_frame_idx_below plus1;
    })
after_operation s decoding_index t UnmarkAll = Ok (record t {
  references = [];
  max_long_term_frame_idx = None;
})
after_operation s decoding_index t (CurrentToLongTerm index) =
    refuse_unless (not t.assigned && is_index_allowed index t.max_long_term_frame_idx)
    (record t {
      references = with_long_term_current s index decoding_index t.references;
      assigned = true;
    })

-- all of them in their order (8.2.5.4)
abbrev pub after_operations : MarkingEntry → (decoding_index : ℕ) → OperationState →
    List Operation → Result OperationState Fault
after_operations s decoding_index t [] = Ok t
after_operations s decoding_index t (o ∷ operations) =
    after_operation s decoding_index t o >>= λ t'. after_operations s decoding_index t' operations

-- memory_management_control_operation 5 (Table 7-9)
abbrev pub is_unmark_all : Operation → Bool
is_unmark_all UnmarkAll = true
is_unmark_all _ = false

-- FrameNum of the entry's frame from then on: 0 after operation 5 (7.4.3)
abbrev pub frame_num_after_marking : MarkingEntry → ℕ
frame_num_after_marking s = elim s.marking [ None ↦ s.current.frame_num | Some m ↦ number_under m ]
  where
    number_under : Marking → ℕ
    number_under (Adaptive operations) =
        if list_any is_unmark_all operations then 0 else s.current.frame_num
    number_under _ = s.current.frame_num

-- the entry's own frame (8.2.5.1)
abbrev pub current_frame : MarkingEntry → (decoding_index : ℕ) → Mark → Reference
current_frame s decoding_index mark = record {
  decoding_index = decoding_index;
  frame_num = frame_num_after_marking s;
  existing = s.existing;
  mark = mark;
}

-- the operations leave this, where the frame that has got no mark by them becomes short-term
-- (8.2.5.1)
abbrev pub with_current_frame : MarkingEntry → (decoding_index : ℕ) → OperationState → Marks
with_current_frame s decoding_index t =
    record {
      references = elim t.assigned [
        | true ↦ map (λ r. if r.decoding_index == decoding_index
            then current_frame s decoding_index r.mark else r) t.references
        | false ↦ t.references ++ current_frame s decoding_index Short ∷ []
      ];
      max_long_term_frame_idx = t.max_long_term_frame_idx;
    }

-- the marks, where there are no more reference frames than there may be (8.2.5.1);
-- TooManyReferences is this decoder's rule
abbrev pub within_limit : MarkingEntry → Marks → Result Marks Fault
within_limit s m =
    if nat_le (length m.references) (limit_of s) then Ok m else Err faults.TooManyReferences

-- the marks as the operations find them (8.2.5.4)
abbrev pub before_operations : Marks → OperationState
before_operations m = record {
  references = m.references;
  max_long_term_frame_idx = m.max_long_term_frame_idx;
  assigned = false;
}

-- the marks after all the operations (8.2.5.4)
abbrev pub after_adaptive_marking : MarkingEntry → (decoding_index : ℕ) → Marks → List Operation →
    Result Marks Fault
after_adaptive_marking s decoding_index m operations =
    after_operations s decoding_index (before_operations m) operations
    >>= λ t. within_limit s (with_current_frame s decoding_index t)

-- ---- the whole history (8.2.5.1)

-- The marks after an entry, from those before it (8.2.5.1).
abbrev pub marks_after : MarkingEntry → (decoding_index : ℕ) → Option Marking → Marks →
    Result Marks Fault
marks_after s decoding_index None m = Ok m
marks_after s decoding_index (Some (Idr no_output false)) m =
    Ok (record {
      references = current_frame s decoding_index Short ∷ [];
      max_long_term_frame_idx = None;
    })
marks_after s decoding_index (Some (Idr no_output true)) m =
    Ok (record {
      references = current_frame s decoding_index (Long 0) ∷ [];
      max_long_term_frame_idx = Some 0;
    })
marks_after s decoding_index (Some SlidingWindow) m =
    after_sliding_window s m.references
    >>= λ references.
    Ok (record m { references = references ++ current_frame s decoding_index Short ∷ [] })
marks_after s decoding_index (Some (Adaptive operations)) m =
    after_adaptive_marking s decoding_index m operations

-- The marks that a history leaves, or the first fault. An entry's decoding index is the
-- number of those before it (8.2.5.1).
abbrev pub marks : List MarkingEntry → Result Marks Fault
marks [] = Ok no_marks
marks (s ∷ older) = marks older >>= λ m. marks_after s (length older) s.marking m

-- ---- gaps in frame_num (7.4.3, 8.2.5.2)

-- PrevRefFrameNum: of the last reference picture or non-existing frame, 0 after operation 5 (7.4.3)
abbrev pub prev_ref_frame_num : List MarkingEntry → ℕ
prev_ref_frame_num [] = 0
prev_ref_frame_num (s ∷ older) =
    elim (is_some s.marking) [
      | true ↦ frame_num_after_marking s
      | false ↦ prev_ref_frame_num older
    ]

-- n numbers from a on, modulo max (UnusedShortTermFrameNum, 7.4.3)
abbrev pub frame_nums_from : (max a n : ℕ) → List ℕ
frame_nums_from max a zero = []
frame_nums_from max a (suc n) = a % max ∷ frame_nums_from max (a + 1) n

-- There are such numbers, and they are counted modulo max from this one on.
pub record AreCountedFrom (max number : ℕ) (numbers : List ℕ) : Type 0 where
  pub below : number < max
  pub some : 0 < length numbers
  pub numbers_are : numbers ≡ frame_nums_from max number (length numbers)

-- how many numbers stand between PrevRefFrameNum and frame_num, modulo MaxFrameNum (7.4.3)
abbrev pub gap_of : (previous : ℕ) → CurrentFrameNum → ℕ
gap_of previous current =
    (current.frame_num + current.max_frame_num - previous - 1) % current.max_frame_num

-- The frame numbers that are missing before a picture that is no IDR picture (7.4.3), or the
-- fault (this decoder's rule).
abbrev pub missing_frame_nums : (previous : ℕ) → (gaps_allowed : Bool) → MarkingEntry →
    Result (List ℕ) Fault
missing_frame_nums previous gaps_allowed s =
    elim (s.current.frame_num == previous) [
      | true ↦ (if is_some s.marking then Err faults.FrameNumRepeated else Ok [])
      | false ↦ elim (s.current.frame_num == (previous + 1) % s.current.max_frame_num) [
        | true ↦ Ok []
        | false ↦ (if gaps_allowed
            then Ok (frame_nums_from s.current.max_frame_num (previous + 1)
            (gap_of previous s.current))
            else Err faults.FrameNumGap)
      ]
    ]

-- the entry for a missing number before the picture (8.2.5.2)
abbrev pub missing_frame_entry : MarkingEntry → (frame_num : ℕ) → MarkingEntry
missing_frame_entry s frame_num = record s {
  current = record { frame_num = frame_num; max_frame_num = s.current.max_frame_num };
  existing = false;
  marking = Some SlidingWindow;
}
