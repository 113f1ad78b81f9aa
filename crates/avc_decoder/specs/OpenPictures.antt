-- The open picture, as it is lent.
use Rattle.std.specs.Prelude.{◌≡◌, ℕ, true, false, List, [], Option, Some, None, IsNone, Ok, Err}
use Rattle.avc_slice.specs.Header.{is_idr}
use Rattle.avc_plane.specs.Frames.{stored_at}
use Rattle.avc_plane.specs.declared.frame.Frame.{Frame}
use Rattle.avc_picture.specs.Decoding.{CanStandAt, Decoding, HasNoFault, progress_at}
use Rattle.avc_decoder_core.specs.History.{stored_frames}
use Rattle.avc_decoder_core.specs.SequenceState.{SequenceState}
use Rattle.avc_decoder.specs.FirstFault.{OpenPicture, history_of, progress_on, slices_of}
use Rattle.avc_decoder.specs.Machine.{Machine, open_picture}
use Rattle.avc_decoder.specs.States.{PartsOrRefusal, current_in}
use Rattle.avc_decoder.specs.declared.open_picture.OpenPicture.{OpenPicture as LentPicture}
use Rattle.avc_decoder.specs.declared.phase.CurrentPicture.{CurrentPicture}

-- The open picture is decoded so: with its parameter sets and its slices, none of which has a
-- fault. Where its frames have these decoding indices, it is decoded as far as the definition says
-- (clause 8). It has the frames of the buffer, of which those that are used for reference are the
-- history's; an IDR picture has none (7.4.3).
pub record IsDecodedBy (o : OpenPicture) (d : Decoding 16) (frames : List (Frame 16)) : Type 0 where
  pub sps_is : d.sps ≡ o.sps
  pub pps_is : d.pps ≡ o.pps
  pub slices_are : d.slices ≡ slices_of o
  pub well : HasNoFault d
  pub indices : List ℕ
  pub stand : CanStandAt indices d
  pub so_far : progress_at indices d ≡ progress_on o (history_of o)
  pub frames_are : is_idr (o.last).header ≡ false → d.frames ≡ frames
  pub stored : is_idr (o.last).header ≡ false → stored_at indices frames
      ≡ stored_frames (history_of o)
  pub idr : is_idr (o.last).header ≡ true → d.frames ≡ []

-- It is lent, if there is one.
abbrev pub IsLent : Option OpenPicture → Option LentPicture → Type 0
IsLent (Some o) (Some lent) = IsDecodedBy o lent.decoder.now lent.frames.now
IsLent None None = Unit {0}
IsLent (Some o) None = ⊥
IsLent None (Some lent) = ⊥

-- The open picture may be answered so. After want of memory none is.
abbrev pub IsOpenPictureAnswer : (max : ℕ) → Machine → Option LentPicture → Type 0
IsOpenPictureAnswer max m answer =
    elim m.failed [
      | true ↦ IsNone answer
      | false ↦ IsLent (open_picture max m) answer
    ]

-- The decoder of this picture is lent, if there is one, and the frames of this sequence.
abbrev pub LendsCurrent : SequenceState → Option CurrentPicture → Option LentPicture → Type 0
LendsCurrent s (Some c) (Some lent) = (lent.decoder.now ≡ c.decoder) × (lent.frames.now ≡ s.frames)
LendsCurrent s None None = Unit {0}
LendsCurrent s (Some c) None = ⊥
LendsCurrent s None (Some lent) = ⊥

-- those of the parts, where there is a decoder that goes on
abbrev pub LendsCurrentIn : (max : ℕ) → {P : Type 0} → PartsOrRefusal max P → Option LentPicture →
    Type 0
LendsCurrentIn max (Ok p) answer =
    LendsCurrent (p.stream).sequence (current_in (p.stream).phase) answer
LendsCurrentIn max (Err refusal) answer = IsNone answer
