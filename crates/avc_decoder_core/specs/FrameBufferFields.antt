-- What the fields of a frame buffer stand for.
use Rattle.std.specs.Prelude.{◌≡◌, ℕ, ◌≤◌, false, List, [], ◌∷◌, length, map, IfSome, Option, Ok}
use Rattle.avc_types.specs.References.{references_at}
use Rattle.avc_types.specs.declared.marked_frame.MarkedFrame.{MarkedFrame}
use Rattle.avc_types.specs.declared.picture.Picture.{Picture}
use Rattle.avc_plane.specs.Frames.{marked_frame, AreSized}
use Rattle.avc_plane.specs.declared.frame.Frame.{Frame}
use Rattle.avc_params.specs.Limits.{width_in_mbs, height_in_mbs, reference_limit}
use Rattle.avc_params.specs.declared.sps.Sps.{Sps}
use Rattle.avc_marking.specs.Marks.{Marks, frame_num_after_marking, prev_ref_frame_num}
use Rattle.avc_dpb.specs.Bumping.{Buffer, PriorPictures, after_prior_pictures}
use Rattle.avc_dpb.specs.Contents.{Contents, IsBuffer, HasBuffer}
use Rattle.avc_dpb.specs.Laws.{IsWithin}
use Rattle.avc_decoder_core.specs.Frames.{frame_at}
use Rattle.avc_decoder_core.specs.History.{Entry, decoded_picture, missing_frame, History, arrivals}
use Rattle.avc_decoder_core.specs.History.{buffer_of, entry_at, marking_entries, marks_of}
use Rattle.avc_decoder_core.specs.History.{picture_entry, planes_in, sequence_sps}
use Rattle.avc_decoder_core.specs.Opening.{with_all_missing}
use Rattle.avc_decoder_core.specs.FrameBufferState.{FrameBufferState}
use Rattle.avc_decoder_core.specs.declared.history_entry.HistoryEntry.{HistoryEntry}
use Rattle.avc_decoder_core.specs.declared.history_entry.HistoryEntry.TheVariants as entries
use Rattle.avc_decoder_core.specs.declared.frame_buffer.FrameBuffer.TheInside.{Inside}

-- the last of these numbers
abbrev pub last_number : List ℕ → ℕ
last_number [] = 0
last_number (n ∷ []) = n
last_number (n ∷ m ∷ numbers) = last_number (m ∷ numbers)

-- the newest entry of the history for which a token stands
abbrev pub entry_of : HistoryEntry → Entry
entry_of (entries.Picture sps header info planes) = decoded_picture sps header info planes
entry_of (entries.MissingFrame sps frame_num) = missing_frame sps frame_num
entry_of (entries.MissingFrames sps numbers) = missing_frame sps (last_number numbers)

-- the history with what a token stands for
abbrev pub with_token : HistoryEntry → History → History
with_token (entries.Picture sps header info planes) h = decoded_picture sps header info planes ∷ h
with_token (entries.MissingFrame sps frame_num) h = missing_frame sps frame_num ∷ h
with_token (entries.MissingFrames sps numbers) h = with_all_missing sps numbers h

-- the history, of tokens with the newest first
abbrev pub history_of : List HistoryEntry → History
history_of [] = []
history_of (t ∷ items) = with_token t (history_of items)

-- the number of the entry's frame once it is marked (7.4.3)
abbrev pub frame_num_of : Entry → ℕ
frame_num_of (decoded_picture sps h info planes) = frame_num_after_marking (picture_entry sps h)
frame_num_of (missing_frame sps frame_num) = frame_num

-- what its fields say: the history, the frames held, and when pictures go out
abbrev pub frame_buffer_state : Inside → FrameBufferState
frame_buffer_state b = record {
  history = history_of b.history.items;
  frames = b.dpb.frames;
  output = b.dpb.output;
  failed = b.failed;
}

-- P holds of each
abbrev pub Each : {A : Type 0} → (A → Type 0) → List A → Type 0
Each P [] = Unit {0}
Each P (x ∷ xs) = P x × Each P xs

-- the decoding indices of the buffer's frames in the history
abbrev pub indices_in : Buffer → List ℕ
indices_in b = map (λ s. s.decoding_index) b.frames

-- Where the entry with this decoding index is a picture it has the size that the parameter set
-- gives.
abbrev pub IsSizedAt : History → Sps → (index : ℕ) → Type 0
IsSizedAt history sps index =
    IfSome (planes_in (entry_at history index)) (AreSized (width_in_mbs sps) (height_in_mbs sps))

-- The buffer's frames that have a mark are the reference frames; there are no more than there may
-- be, and all have one size.
pub record IsStateAfter (history : History) (dpb : Contents) (idx : Option ℕ)
    (previous : ℕ) : Type 0 where
  pub marks : Marks
  pub marked : marks_of history ≡ Ok marks
  pub idx_is : idx ≡ marks.max_long_term_frame_idx
  pub previous_is : previous ≡ prev_ref_frame_num (marking_entries history)
  pub buffer : IsBuffer dpb (buffer_of dpb.output history) (length history)
      (frame_at history marks.references)
  pub references : references_at (indices_in (buffer_of dpb.output history))
      (map marked_frame dpb.frames) ≡ marks.references
  pub few : IfSome (sequence_sps history) (λ sps. length marks.references ≤ reference_limit sps)
  pub within : IsWithin 16 (arrivals history)
  pub sized : IfSome (sequence_sps history)
      (λ sps. Each (IsSizedAt history sps) (indices_in (buffer_of dpb.output history)))

-- the frames and numbers that are kept are those after the history, unless memory was refused
abbrev pub IsFrameBufferState : Inside → Type 0
IsFrameBufferState b =
    b.failed ≡ false →
    IsStateAfter (history_of b.history.items) b.dpb b.max_long_term_frame_idx b.prev_ref_frame_num

-- ---- what a call makes of the buffer

-- the frames with other marks
abbrev pub with_marks : List (Frame 16) → List MarkedFrame → List (Frame 16)
with_marks [] marked = []
with_marks (f ∷ frames) [] = f ∷ frames
with_marks (f ∷ frames) (m ∷ marked) = record f { mark = m.mark } ∷ with_marks frames marked

-- the frames with these marks
abbrev pub with_all_marks : Contents → List MarkedFrame → Contents
with_all_marks c marked = record c { frames = with_marks c.frames marked }

-- The pictures before have gone out, or remain (C.4.4).
abbrev pub OutputsPrior : PriorPictures → (old : Contents) (out : List Picture) (new : Contents) →
    Type 0
OutputsPrior prior old out new =
    (b : Buffer) (next : ℕ) (frame_of : ℕ → Frame 16) → IsBuffer old b next frame_of →
    HasBuffer new out b (after_prior_pictures prior b) next frame_of
