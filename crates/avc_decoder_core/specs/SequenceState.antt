-- What a sequence stands for, and how it answers.
use Rattle.std.specs.Prelude.{◌≡◌, ◌≢◌, ℕ, Bool, true, false, List, [], map, IfSome, Option, Some}
use Rattle.std.specs.Prelude.{None, Result, Ok, Err}
use Rattle.avc_types.specs.declared.fault.Fault.{Fault}
use Rattle.avc_types.specs.declared.picture.Picture.{Picture}
use Rattle.avc_types.specs.declared.picture_error.PictureError.{PictureError}
use Rattle.avc_types.specs.declared.picture_error.PictureError.TheVariants.{Fault as Faulty}
use Rattle.avc_types.specs.declared.picture_error.PictureError.TheVariants.{OutOfMemory}
use Rattle.avc_types.specs.References.{StandAt}
use Rattle.avc_dpb.specs.declared.output.Output.{Output}
use Rattle.avc_plane.specs.Planes.{Planes}
use Rattle.avc_plane.specs.Frames.{AreFrames, AreSized, marked_frame, stored_at}
use Rattle.avc_plane.specs.declared.frame.Frame.{Frame}
use Rattle.avc_params.specs.Limits.{width_in_mbs, height_in_mbs}
use Rattle.avc_params.specs.declared.sps.Sps.{Sps}
use Rattle.avc_slice.specs.declared.header.Header.{Header}
use Rattle.avc_decoder_core.specs.History.{History, history_at_opening, history_after_closing}
use Rattle.avc_decoder_core.specs.History.{sequence_sps, stored_frames}
use Rattle.avc_decoder_core.specs.Pictures.{output_pictures, held_pictures, output_at_closing}

-- the parameter set of a picture that is being decoded, and its first slice's header and unit
pub record OpenPictureStart : Type 0 where
  pub sps : Sps
  pub header : Header
  pub unit : ℕ

-- The history of the coded video sequence's closed pictures and missing numbers, the picture that
-- was opened on it, if there is one, the stored frames with their marks in decoding order, when
-- pictures go out, and whether memory was refused.
pub record SequenceState : Type 0 where
  pub history : History
  pub open_picture : Option OpenPictureStart
  pub frames : List (Frame 16)
  pub output : Output
  pub failed : Bool

-- with no history
abbrev pub empty_sequence : Output → SequenceState
empty_sequence output = record {
  history = [];
  open_picture = None;
  frames = [];
  output = output;
  failed = false;
}

-- the picture of this first slice is open, and these are the stored frames
abbrev pub with_open_picture : OpenPictureStart → List (Frame 16) → SequenceState → SequenceState
with_open_picture o frames s = record s { open_picture = Some o; frames = frames }

-- the history, or at a fault that before
abbrev pub or_before : History → Result History Fault → History
or_before before (Ok h) = h
or_before before (Err f) = before

-- the history that the open picture stands on: with the numbers that are missing before it
abbrev pub current_history : SequenceState → History
current_history s =
    elim s.open_picture [
      | None ↦ s.history
      | Some o ↦ or_before s.history (history_at_opening o.sps o.header s.history)
    ]

-- A picture was opened, and these pictures go out, let out by the missing numbers.
pub record IsOpened (old : SequenceState) (o : OpenPictureStart) (out : List Picture)
    (new : SequenceState) : Type 0 where
  pub going : old.failed ≡ false
  pub state : new ≡ with_open_picture o new.frames old
  pub stands : history_at_opening o.sps o.header old.history ≡ Ok (current_history new)
  pub pictures : out ≡ output_pictures old.output old.history (current_history new)

-- The open picture was closed with these planes, and these pictures go out.
pub record IsClosed (old : SequenceState) (o : OpenPictureStart) (planes : Planes)
    (out : List Picture) (new : SequenceState) : Type 0 where
  pub going : old.failed ≡ false
  pub state : new ≡ record {
    history = new.history;
    open_picture = None;
    frames = new.frames;
    output = old.output;
    failed = false;
  }
  pub closes : history_after_closing o.sps o.header o.unit planes (current_history old)
      ≡ Ok new.history
  pub pictures : out ≡ output_at_closing old.output o.header (current_history old) new.history

-- A call failed: with the fault in place of a history, and nothing changed, or for want of memory.
abbrev pub Fails : (old : SequenceState) → Result History Fault → PictureError →
    (new : SequenceState) → Type 0
Fails old what (Faulty f) new = (old.failed ≡ false) × (new ≡ old) × (what ≡ Err f)
Fails old what (OutOfMemory _) new = new.failed ≡ true

-- Memory was refused.
abbrev pub WantsMemory : {A : Type 0} → Result A PictureError → Type 0
WantsMemory (Err (OutOfMemory _)) = Unit {0}
WantsMemory _ = ⊥

-- All that was needed for output goes out, and the history is forgotten.
pub record IsCleared (old : SequenceState) (out : List Picture) (new : SequenceState) : Type 0 where
  pub going : old.failed ≡ false
  pub state : new ≡ empty_sequence old.output
  pub pictures : out ≡ held_pictures old.output (current_history old)

-- Some picture is needed for output.
abbrev pub HoldsPictures : SequenceState → Type 0
HoldsPictures s = held_pictures s.output (current_history s) ≢ []

-- The frames of the buffer are those of some entries of the history, and those that are used for
-- reference are the history's.
pub record AreStoredIn {PAD : ℕ} (history : History) (frames : List (Frame PAD)) : Type 0 where
  pub indices : List ℕ
  pub stand : StandAt indices (map marked_frame frames)
  pub stored : stored_at indices frames ≡ stored_frames history

-- At most 16 frames, those that are pictures of the size that the sequence's parameter set gives.
abbrev pub AreFramesIn : History → List (Frame 16) → Type 0
AreFramesIn history frames =
    IfSome (sequence_sps history) (λ sps. AreFrames (width_in_mbs sps) (height_in_mbs sps) frames)

-- The planes have the size of the open picture.
abbrev pub AreSizedAs : OpenPictureStart → Planes → Type 0
AreSizedAs o planes = AreSized (width_in_mbs o.sps) (height_in_mbs o.sps) planes
