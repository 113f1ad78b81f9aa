-- What the parts of storing a frame make of the slots and frames, and of every buffer that these
-- stand for.
use Rattle.std.specs.Prelude.{◌≡◌, ◌≢◌, ◌+◌, ℕ, Bool, true, List, [], ◌++◌, map}
use Rattle.std.specs.List.{filter_map}
use Rattle.avc_types.specs.declared.picture.Picture.{Picture}
use Rattle.avc_plane.specs.declared.frame.Frame.{Frame}
use Rattle.avc_dpb.specs.declared.waiting.Slot.{Slot}
use Rattle.avc_dpb.specs.declared.arriving_frame.ArrivingFrame.{ArrivingFrame}
use Rattle.avc_dpb.specs.declared.waiting.Bumping.{Bumping}
use Rattle.avc_dpb.specs.declared.waiting.Bumping.TheVariants.{ForRoom, ForFew, ForNone}
use Rattle.avc_dpb.specs.Bumping.{Buffer, after_bumping, after_making_room, holds_too_many}
use Rattle.avc_dpb.specs.Bumping.{must_bump, with_frame_placed}
use Rattle.avc_dpb.specs.Contents.{AreReferences, IsReferenceAmong, IsRising, arrival_of, slot_of}
use Rattle.avc_dpb.specs.StoredFrame.{shown_frame}

-- The slots and frames are those of the buffer, whose frames have the marks of these reference
-- frames.
pub record StandFor (slots : List Slot) (frames : List (Frame 16)) (references : List ℕ)
    (b : Buffer) (next : ℕ) (frame_of : ℕ → Frame 16) : Type 0 where
  pub slots_are : slots ≡ map slot_of b.frames
  pub frames_are : frames ≡ map (λ s. frame_of s.decoding_index) b.frames
  pub marks : AreReferences frames references b
  pub rising : IsRising b.frames next

-- The buffer b became b', for which the slots and frames stand, and what b' has put out since was
-- added.
pub record Become (slots : List Slot) (frames : List (Frame 16)) (references : List ℕ)
    (b b' : Buffer) (next : ℕ) (frame_of : ℕ → Frame 16)
    (out out' : List Picture) : Type 0 where
  pub since : List ℕ
  pub grows : b'.out ≡ b.out ++ since
  pub stand : StandFor slots frames references b' next frame_of
  pub pictures : out' ≡ out ++ filter_map (λ index. shown_frame (frame_of index)) since

-- Where b becomes b', some picture goes out.
pub record ShowsSome (b b' : Buffer) (frame_of : ℕ → Frame 16) : Type 0 where
  pub since : List ℕ
  pub grows : b'.out ≡ b.out ++ since
  pub some : filter_map (λ index. shown_frame (frame_of index)) since ≢ []

-- The picture that goes first has gone out (C.4.5.3).
abbrev pub Bumps : (slots : List Slot) (frames : List (Frame 16)) (out : List Picture)
    (slots' : List Slot) (frames' : List (Frame 16))
    (out' : List Picture) → Type 0
Bumps slots frames out slots' frames' out' =
    (b : Buffer) (next : ℕ) (frame_of : ℕ → Frame 16) (references : List ℕ) →
    StandFor slots frames references b next frame_of
    → Become slots' frames' references b (after_bumping references b) next frame_of out out'

abbrev pub ShowsFirst : List Slot → List (Frame 16) → Type 0
ShowsFirst slots frames =
    (b : Buffer) (next : ℕ) (frame_of : ℕ → Frame 16) (references : List ℕ) →
    StandFor slots frames references b next frame_of
    → ShowsSome b (after_bumping references b) frame_of

-- bumping goes on, where a picture is needed for output: what `goes_on` says, of the buffer
abbrev pub goes_on_in : Bumping → (references : List ℕ) → Buffer → Bool
goes_on_in (ForRoom a) references b = must_bump (arrival_of a references) b
goes_on_in (ForFew output a) references b = holds_too_many output (arrival_of a references) b
goes_on_in ForNone references b = true

-- Pictures have gone out as long as bumping goes on (C.4.5.3).
abbrev pub BumpsWhile : Bumping →
    (slots : List Slot) (frames : List (Frame 16)) (out : List Picture) (slots' : List Slot)
    (frames' : List (Frame 16)) (out' : List Picture) → Type 0
BumpsWhile bumping slots frames out slots' frames' out' =
    (b : Buffer) (next : ℕ) (frame_of : ℕ → Frame 16) (references : List ℕ) →
    StandFor slots frames references b next frame_of
    → Become slots' frames' references b
    (after_making_room (goes_on_in bumping references) references b) next frame_of out out'

abbrev pub ShowsWhile : Bumping → List Slot → List (Frame 16) → Type 0
ShowsWhile bumping slots frames =
    (b : Buffer) (next : ℕ) (frame_of : ℕ → Frame 16) (references : List ℕ) →
    StandFor slots frames references b next frame_of
    → ShowsSome b (after_making_room (goes_on_in bumping references) references b) frame_of

-- The frame was stored, or its picture went out at once (C.4.5.1, C.4.5.2).
abbrev pub PlacesFrame : (slots : List Slot) (frames : List (Frame 16)) (out : List Picture)
    (frame : Frame 16) → ArrivingFrame
    → (slots' : List Slot) (frames' : List (Frame 16)) (out' : List Picture) → Type 0
PlacesFrame slots frames out frame arriving slots' frames' out' =
    (b : Buffer) (next : ℕ) (frame_of : ℕ → Frame 16) (references : List ℕ) →
    StandFor slots frames references b next frame_of
    → frame_of next ≡ frame → IsReferenceAmong frame next references
    → Become slots' frames' references b (with_frame_placed next (arrival_of arriving references) b)
    (next + 1) frame_of out out'
