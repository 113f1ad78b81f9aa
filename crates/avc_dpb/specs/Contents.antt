-- What the buffer's type holds, and the buffer that it stands for.
use Rattle.std.specs.Prelude.{◌≡◌, ◌≢◌, ◌==◌, ℕ, zero, suc, ◌<◌, Bool, false, List, [], ◌∷◌, map}
use Rattle.std.specs.Prelude.{Option, None, Some, slice_get, ◌+◌}
use Rattle.std.specs.List.{filter_map, list_any}
use Rattle.avc_types.specs.declared.picture.Picture.{Picture}
use Rattle.avc_types.specs.declared.references.Mark.{Mark}
use Rattle.avc_plane.specs.declared.frame.Frame.{Frame}
use Rattle.avc_dpb.specs.declared.waiting.Slot.{Slot}
use Rattle.avc_dpb.specs.declared.arriving_frame.ArrivingFrame.{ArrivingFrame}
use Rattle.avc_dpb.specs.declared.output.Output.{Output}
use Rattle.avc_dpb.specs.Bumping.{Arrival, remain, Stored, Buffer, is_reference_in, new_output}
use Rattle.avc_dpb.specs.Bumping.{after_frame, with_all_output}
use Rattle.avc_dpb.specs.StoredFrame.{is_used_for_reference, shown_frame}

-- the stored frames in decoding order, and beside each what output keeps of it; when pictures go
-- out; whether memory was refused
pub record Contents : Type 0 where
  pub slots : List Slot
  pub frames : List (Frame 16)
  pub output : Output
  pub failed : Bool

-- Later frames have later decoding indices, and all are below that of the next entry.
abbrev pub IsRising : List Stored → (next : ℕ) → Type 0
IsRising [] next = Unit {0}
IsRising (s ∷ []) next = s.decoding_index < next
IsRising (s ∷ t ∷ frames) next = (s.decoding_index < t.decoding_index) × IsRising (t ∷ frames) next

-- what output keeps of a stored frame
abbrev pub slot_of : Stored → Slot
slot_of s = record { pic_order_cnt = s.pic_order_cnt; needed_for_output = s.needed_for_output }

-- The contents stand for the buffer b before the history's entry whose decoding index is `next`:
-- they have its frames with their order counts, and know which are needed for output. `frame_of` is
-- the frame of each entry.
pub record IsBuffer (c : Contents) (b : Buffer) (next : ℕ) (frame_of : ℕ → Frame 16) : Type 0 where
  pub works : c.failed ≡ false
  pub slots : c.slots ≡ map slot_of b.frames
  pub frames : c.frames ≡ map (λ s. frame_of s.decoding_index) b.frames
  pub rising : IsRising b.frames next

-- The marks of the frames say which are among these reference frames.
abbrev pub AreReferences : List (Frame 16) → List ℕ → Buffer → Type 0
AreReferences frames references b =
    map is_used_for_reference frames ≡ map (is_reference_in references) b.frames

-- An arriving frame as an entry of the history, with the decoding indices of the reference frames
-- once it is marked. What becomes of the pictures before it is asked for by other calls.
abbrev pub arrival_of : ArrivingFrame → (references : List ℕ) → Arrival
arrival_of a references = record {
  pic_order_cnt = a.pic_order_cnt;
  existing = a.existing;
  is_reference = a.is_reference;
  prior_pictures = remain;
  capacity = a.capacity;
  max_num_reorder_frames = a.max_num_reorder_frames;
  references = references;
}

-- The mark of the frame of an entry says whether it is among these reference frames.
abbrev pub IsReferenceAmong : Frame 16 → (index : ℕ) → List ℕ → Type 0
IsReferenceAmong frame index references =
    is_used_for_reference frame ≡ list_any (λ r. r == index) references

-- The buffer b became the buffer b', for which the contents stand, and what b' has put out was
-- handed out.
pub record HasBuffer (new : Contents) (out : List Picture) (b b' : Buffer) (next : ℕ)
    (frame_of : ℕ → Frame 16) : Type 0 where
  pub buffer : IsBuffer new b' next frame_of
  pub pictures : out ≡ filter_map (λ index. shown_frame (frame_of index)) (new_output b b')

-- ---- what a call makes of every buffer that the contents stand for, and what it hands out

-- A frame is stored, or its picture goes out where there is no room, and then no more are needed
-- for output than may stay so (C.4.5); the contents' frames and this one have the marks that they
-- have once this frame is marked.
abbrev pub Stores : (old : Contents) (frame : Frame 16) → ArrivingFrame →
    (out : List Picture) (new : Contents) → Type 0
Stores old frame arriving out new =
    (b : Buffer) (next : ℕ) (frame_of : ℕ → Frame 16) (references : List ℕ) →
    IsBuffer old b next frame_of →
    AreReferences old.frames references b → frame_of next ≡ frame →
    IsReferenceAmong frame next references →
    HasBuffer new out b (after_frame old.output next (arrival_of arriving references) b) (next + 1)
    frame_of

-- All pictures needed for output go out (C.4.4).
abbrev pub OutputsAll : (old : Contents) (out : List Picture) (new : Contents) → Type 0
OutputsAll old out new =
    (b : Buffer) (next : ℕ) (frame_of : ℕ → Frame 16) → IsBuffer old b next frame_of →
    HasBuffer new out b (with_all_output b) next frame_of

-- Some picture goes out with them.
abbrev pub OutputsSome : (old : Contents) → Type 0
OutputsSome old =
    (b : Buffer) (next : ℕ) (frame_of : ℕ → Frame 16) → IsBuffer old b next frame_of →
    filter_map (λ index. shown_frame (frame_of index)) (new_output b (with_all_output b)) ≢ []

-- the frame at a place is needed for output
abbrev pub is_needed_for_output_at : List Slot → (place : ℕ) → Bool
is_needed_for_output_at slots place =
    elim (slice_get slots place) [
      | None ↦ false
      | Some s ↦ s.needed_for_output
    ]

-- the list with the element at one place changed
abbrev pub changed_at : {A : Type 0} → (A → A) → List A → (place : ℕ) → List A
changed_at change [] place = []
changed_at change (x ∷ xs) zero = change x ∷ xs
changed_at change (x ∷ xs) (suc place) = x ∷ changed_at change xs place

-- the contents with the mark of the frame at this place changed
abbrev pub with_mark : Contents → (place : ℕ) → Option Mark → Contents
with_mark c place mark =
    record c { frames = changed_at (λ f. record f { mark = mark }) c.frames place }
