-- What the frame buffer stands for, and how it answers.
use Rattle.std.specs.Prelude.{◌≡◌, Bool, true, false, List, [], ◌∷◌, Result, Err, is_some}
use Rattle.std.specs.Result.{is_ok}
use Rattle.avc_types.specs.declared.fault.Fault.{Fault}
use Rattle.avc_types.specs.declared.picture.Picture.{Picture}
use Rattle.avc_types.specs.declared.picture_error.PictureError.{PictureError}
use Rattle.avc_types.specs.declared.picture_error.PictureError.TheVariants.{Fault as Faulty}
use Rattle.avc_types.specs.declared.picture_error.PictureError.TheVariants.{OutOfMemory}
use Rattle.avc_dpb.specs.declared.output.Output.{Output}
use Rattle.avc_plane.specs.declared.frame.Frame.{Frame}
use Rattle.avc_params.specs.declared.sps.Sps.{Sps}
use Rattle.avc_slice.specs.Header.{is_idr, is_reference, has_idr_marking}
use Rattle.avc_slice.specs.declared.header.Header.{Header}
use Rattle.avc_marking.specs.Marks.{Marks}
use Rattle.avc_decoder_core.specs.History.{Entry, History, is_same_sps, marks_of, sequence_sps}
use Rattle.avc_decoder_core.specs.Pictures.{output_pictures, held_pictures, prior_output}

-- The history of decoded pictures and missing numbers, the stored frames with their marks in
-- decoding order, when pictures go out, and whether memory was refused.
pub record FrameBufferState : Type 0 where
  pub history : History
  pub frames : List (Frame 16)
  pub output : Output
  pub failed : Bool

-- with no history
abbrev pub empty_frame_buffer : Output → FrameBufferState
empty_frame_buffer output = record { history = []; frames = []; output = output; failed = false }

-- The picture is an IDR picture with the marking of one, or it has the parameter set of its
-- sequence (7.4.1.2.1). It has a marking where it is a reference picture (7.3.3).
pub record CanFollow (history : History) (sps : Sps) (h : Header) : Type 0 where
  pub idr : is_idr h ≡ true → has_idr_marking h ≡ true
  pub same : is_idr h ≡ false → is_same_sps (sequence_sps history) sps ≡ true
  pub reference : is_some h.marking ≡ is_reference h

-- The entry has come to the history, and these pictures go out.
pub record Stores (old : FrameBufferState) (e : Entry) (out : List Picture)
    (new : FrameBufferState) : Type 0 where
  pub going : old.failed ≡ false
  pub state : new ≡ record {
    history = e ∷ old.history;
    frames = new.frames;
    output = old.output;
    failed = false;
  }
  pub marked : is_ok (marks_of (e ∷ old.history)) ≡ true
  pub pictures : out ≡ output_pictures old.output old.history (e ∷ old.history)

-- what a picture with this header finds: an IDR picture no history
abbrev pub at_sequence_of : Header → FrameBufferState → FrameBufferState
at_sequence_of h b = elim (is_idr h) [ true ↦ empty_frame_buffer b.output | false ↦ b ]

-- An IDR picture begins a sequence: what is needed for output goes out, unless it is dropped
-- (C.4.4), and the history is forgotten. At another picture nothing changes.
pub record BeginsSequence (old : FrameBufferState) (h : Header) (out : List Picture)
    (new : FrameBufferState) : Type 0 where
  pub state : new ≡ at_sequence_of h old
  pub pictures : out ≡ prior_output old.output h old.history

-- The entry could not be marked, and nothing changed, or memory was refused.
abbrev pub Refuses : (old : FrameBufferState) → Result Marks Fault → PictureError →
    (new : FrameBufferState) → Type 0
Refuses old marked (Faulty f) new = (old.failed ≡ false) × (new ≡ old) × (marked ≡ Err f)
Refuses old marked (OutOfMemory _) new = new.failed ≡ true

-- All pictures needed for output go out, and the history is forgotten.
pub record IsEmptied (old : FrameBufferState) (out : List Picture)
    (new : FrameBufferState) : Type 0 where
  pub going : old.failed ≡ false
  pub state : new ≡ empty_frame_buffer old.output
  pub pictures : out ≡ held_pictures old.output old.history
