-- The history of a coded video sequence, and what decoding one more picture starts from. A history
-- is written with its newest entry first; an entry's decoding index is the number of those before
-- it.
use Rattle.std.specs.Prelude.{ℕ, zero, suc, ◌-◌, ℤ, pos, Bool, true, false, if◌then◌else◌, List, []}
use Rattle.std.specs.Prelude.{◌∷◌, length, map, drop, Option, Some, None, slice_get, Result, Ok}
use Rattle.std.specs.Prelude.{Err}
use Rattle.std.specs.Option.{option_map}
use Rattle.avc_types.specs.declared.current_frame_num.CurrentFrameNum.{CurrentFrameNum}
use Rattle.avc_types.specs.declared.fault.Fault.{Fault}
use Rattle.avc_types.specs.declared.fault.Fault.TheVariants as faults
use Rattle.avc_types.specs.declared.picture_info.PictureInfo.{PictureInfo}
use Rattle.avc_types.specs.declared.references.Marking.TheVariants.{SlidingWindow}
use Rattle.avc_types.specs.References.{Reference}
use Rattle.avc_types.specs.Results.{◌>>=◌}
use Rattle.avc_plane.specs.Planes.{Planes, StoredFrame}
use Rattle.avc_params.specs.declared.sps.Sps.{Sps}
use Rattle.avc_params.specs.Limits.{max_frame_num, dpb_size, restriction_of}
use Rattle.avc_params.specs.Same.{same_sps}
use Rattle.avc_params.specs.VideoUsability.{usability_of}
use Rattle.avc_slice.specs.declared.header.Header.{Header}
use Rattle.avc_slice.specs.Header.{is_idr, is_reference, has_operation_5}
use Rattle.avc_poc.specs.OrderCounts.{Counts, Past, picture, missing, order_counts, order_of}
use Rattle.avc_marking.specs.Marks.{MarkingEntry, Marks, marks, prev_ref_frame_num}
use Rattle.avc_marking.specs.Marks.{missing_frame_nums}
use Rattle.avc_dpb.specs.declared.output.Output.{Output}
use Rattle.avc_dpb.specs.Bumping.{PriorPictures, remain, are_output, Arrival, Buffer, buffer_after}
use Rattle.avc_dpb.specs.Bumping.{needed_in_output_order}

-- A closed picture with its parameter set, its first slice's header, what is known of it beside its
-- samples, and its planes; or a frame number that is missing (8.2.5.2).
pub data Entry : Type 0 where
  decoded_picture : Sps → Header → PictureInfo → Planes → Entry
  missing_frame : Sps → (frame_num : ℕ) → Entry

-- all entries of a coded video sequence so far, the newest first: the oldest is its IDR picture
-- (7.4.1.2.2)
abbrev pub History : Type 0
History = List Entry

-- ---- what order counts, marking and output ask of an entry (8.2.1, 8.2.5, C.4)

-- what order counts ask of an entry (8.2.1)
abbrev past_of : Entry → Past
past_of (decoded_picture sps h info planes) = picture sps h
past_of (missing_frame sps frame_num) = missing sps frame_num

-- that of all entries (8.2.1)
abbrev pub pasts : History → List Past
pasts h = map past_of h

-- frame_num and MaxFrameNum (8.2.4.1)
abbrev pub current_in : Sps → (frame_num : ℕ) → CurrentFrameNum
current_in sps frame_num = record { frame_num = frame_num; max_frame_num = max_frame_num sps }

-- what marking asks of a picture (8.2.5)
abbrev pub picture_entry : Sps → Header → MarkingEntry
picture_entry sps h = record {
  current = current_in sps h.frame_num;
  max_num_ref_frames = sps.max_num_ref_frames;
  existing = true;
  marking = h.marking;
}

-- what marking asks of a missing frame number: a non-existing frame, by the sliding window
-- (8.2.5.2)
abbrev missing_frame_entry : Sps → (frame_num : ℕ) → MarkingEntry
missing_frame_entry sps frame_num = record {
  current = current_in sps frame_num;
  max_num_ref_frames = sps.max_num_ref_frames;
  existing = false;
  marking = Some SlidingWindow;
}

-- what marking asks of an entry (8.2.5)
abbrev pub marking_entry : Entry → MarkingEntry
marking_entry (decoded_picture sps h info planes) = picture_entry sps h
marking_entry (missing_frame sps frame_num) = missing_frame_entry sps frame_num

-- that of all entries (8.2.5)
abbrev pub marking_entries : History → List MarkingEntry
marking_entries h = map marking_entry h

-- the marks after all entries, or the first fault (8.2.5)
abbrev pub marks_of : History → Result Marks Fault
marks_of h = marks (marking_entries h)

-- the reference frames; none at a fault (this decoder's rule)
abbrev pub or_no_references : Result Marks Fault → List Reference
or_no_references (Ok m) = m.references
or_no_references (Err f) = []

-- The reference frames after all entries, in decoding order; none where an entry could not be
-- marked (8.2.5).
abbrev pub references_of : History → List Reference
references_of h = or_no_references (marks_of h)

-- What becomes of the pictures of the sequence before: with operation 5 they go out (C.4.4).
abbrev pub prior_pictures_of : Header → PriorPictures
prior_pictures_of h = if has_operation_5 h then are_output else remain

-- PicOrderCnt (8.2.1); 0 at a fault, at which there is no picture
abbrev pub order_or_0 : Result Counts Fault → ℤ
order_or_0 (Ok c) = order_of c
order_or_0 (Err f) = pos 0

-- max_num_reorder_frames, where the parameter set gives it (E.2.1)
abbrev pub reorder_limit : Sps → Option ℕ
reorder_limit sps = option_map (λ r. r.max_num_reorder_frames) (restriction_of sps)

-- What output asks of an entry: PicOrderCnt, and the reference frames once it is marked (C.4.2,
-- C.4.4, C.4.5). A missing frame number sets no limit, since its frame is never held.
abbrev pub arrival : Entry → (older : History) → Arrival
arrival (decoded_picture sps h info planes) older = record {
  pic_order_cnt = order_or_0 (order_counts sps h (pasts older));
  existing = true;
  is_reference = is_reference h;
  prior_pictures = prior_pictures_of h;
  capacity = dpb_size sps;
  max_num_reorder_frames = reorder_limit sps;
  references = map (λ r. r.decoding_index)
      (references_of (decoded_picture sps h info planes ∷ older));
}
arrival (missing_frame sps frame_num) older = record {
  pic_order_cnt = pos 0;
  existing = false;
  is_reference = true;
  prior_pictures = remain;
  capacity = dpb_size sps;
  max_num_reorder_frames = None;
  references = map (λ r. r.decoding_index) (references_of (missing_frame sps frame_num ∷ older));
}

-- that of all entries (C.4)
abbrev pub arrivals : History → List Arrival
arrivals [] = []
arrivals (e ∷ older) = arrival e older ∷ arrivals older

-- what has gone out, and what is in the buffer (C.4)
abbrev pub buffer_of : Output → History → Buffer
buffer_of output h = buffer_after output (arrivals h)

-- the decoding indices of the pictures that go out where history `old` has become `new` (C.4.5.3)
abbrev pub new_output : Output → (old new : History) → List ℕ
new_output output old new = drop (length (buffer_of output old).out) (buffer_of output new).out

-- the decoding indices of the pictures that are needed for output, in the order in which they go
-- out (C.4.5.3)
abbrev pub all_held : Output → History → List ℕ
all_held output h = map (λ s. s.decoding_index) (needed_in_output_order (buffer_of output h).frames)

-- ---- entries by their decoding indices (this decoder's form of the buffer's frames)

-- the entry with this decoding index, if there is one
abbrev pub entry_at : History → (index : ℕ) → Option Entry
entry_at h index = elim (length h - index) [ zero ↦ None | suc n ↦ slice_get h n ]

-- the planes of an entry; a missing frame number has none (8.2.5.2)
abbrev pub planes_in : Option Entry → Option Planes
planes_in (Some (decoded_picture sps h info planes)) = Some planes
planes_in (Some (missing_frame sps frame_num)) = None
planes_in None = None

-- a reference frame with its planes; a non-existing one has none (8.2.5.2)
abbrev pub stored : History → Reference → StoredFrame
stored h r = record { reference = r; planes = planes_in (entry_at h r.decoding_index) }

-- the reference frames after all entries, with their planes, in decoding order (8.2.5)
abbrev pub stored_frames : History → List StoredFrame
stored_frames h = map (stored h) (references_of h)

-- ---- coded video sequences (7.4.1.2.2)

-- the entries before a picture in its coded video sequence: none before an IDR picture, which
-- begins one (7.4.1.2.2)
abbrev pub earlier_in_sequence : Header → (before : History) → History
earlier_in_sequence h before = elim (is_idr h) [ true ↦ [] | false ↦ before ]

-- what is known of a picture whose first slice has this header and came with this unit, by its
-- order count (7.4.1.2.4, 7.4.3, E.2.1)
abbrev pub info_with : Sps → Header → (unit : ℕ) → (pic_order_cnt : ℤ) → PictureInfo
info_with sps h unit order = record {
  unit = unit;
  is_idr = is_idr h;
  frame_num = h.frame_num;
  pic_order_cnt = order;
  usability = usability_of sps;
}

-- the same where these entries stand before it in its sequence (8.2.1)
abbrev pub info_of : Sps → Header → (unit : ℕ) → (older : History) → PictureInfo
info_of sps h unit older = info_with sps h unit (order_or_0 (order_counts sps h (pasts older)))

-- the history with a closed picture: that of an IDR picture has it alone (7.4.1.2.2)
abbrev pub with_picture : Sps → Header → (unit : ℕ) → Planes → (before : History) → History
with_picture sps h unit planes before =
    let older = earlier_in_sequence h before in
    decoded_picture sps h (info_of sps h unit older) planes ∷ older

-- ---- opening a picture (7.4.1.2.1, 7.4.3, 8.2.5.2)

-- the parameter set of the sequence: that of the last IDR picture (7.4.1.2.1)
abbrev pub sequence_sps : History → Option Sps
sequence_sps [] = None
sequence_sps (decoded_picture sps h info planes ∷ older) =
    elim (is_idr h) [
      | true ↦ Some sps
      | false ↦ sequence_sps older
    ]
sequence_sps (missing_frame sps frame_num ∷ older) = sequence_sps older

-- there is one, and the other has the same contents (7.4.1.2.1)
abbrev pub is_same_sps : Option Sps → Sps → Bool
is_same_sps None sps = false
is_same_sps (Some before) sps = same_sps before sps

-- One entry more for each missing number (8.2.5.2); each can be marked.
abbrev pub with_missing : Sps → List ℕ → History → Result History Fault
with_missing sps [] h = Ok h
with_missing sps (n ∷ numbers) h =
    marks_of (missing_frame sps n ∷ h) >>= λ m. with_missing sps numbers (missing_frame sps n ∷ h)

-- the history, if the picture after it has order counts (8.2.1), else PocRange
abbrev pub with_order_counts : Sps → Header → History → Result History Fault
with_order_counts sps h history = order_counts sps h (pasts history) >>= λ c. Ok history

-- The history with the frame numbers that are missing before a picture of this header (7.4.3,
-- 8.2.5.2), or the first of ParameterSetChanged, FrameNumGap, FrameNumRepeated, TooManyReferences
-- and PocRange (this decoder's rule). Before an IDR picture, which is counted alone, the sequence
-- before it stays until it is closed.
abbrev pub history_at_opening : Sps → Header → History → Result History Fault
history_at_opening sps h history =
    elim (is_idr h) [
      | true ↦ with_order_counts sps h [] >>= λ none. Ok history
      | false ↦ elim (is_same_sps (sequence_sps history) sps) [
        | false ↦ Err faults.ParameterSetChanged
        | true ↦ missing_frame_nums (prev_ref_frame_num (marking_entries history))
            sps.gaps_in_frame_num_value_allowed_flag (picture_entry sps h)
            >>= λ numbers. with_missing sps numbers history >>= λ full. with_order_counts sps h full
      ]
    ]

-- ---- closing it (8.2.5)

-- The history with the picture marked (8.2.5), or BadMarking or TooManyReferences.
abbrev pub history_after_closing : Sps → Header → (unit : ℕ) → Planes → History →
    Result History Fault
history_after_closing sps h unit planes history =
    marks_of (with_picture sps h unit planes history) >>= λ m.
    Ok (with_picture sps h unit planes history)
