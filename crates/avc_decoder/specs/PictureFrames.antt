-- The frames that a picture is decoded with, and what the picture decoder then says on the history
-- of the sequence.
use Rattle.std.specs.Prelude.{◌≡◌, ℕ, ◌-◌, true, false, List, [], All, Some}
use Rattle.avc_types.specs.declared.fault.Fault.{Fault}
use Rattle.avc_plane.specs.Planes.{StoredFrame}
use Rattle.avc_plane.specs.declared.frame.Frame.{Frame}
use Rattle.avc_slice.specs.Header.{is_idr, is_p}
use Rattle.avc_slice.specs.Within.{IsHeader}
use Rattle.avc_slice.specs.declared.header.Header.{Header}
use Rattle.avc_slice.specs.declared.slice.Slice.{Slice}
use Rattle.avc_picture.specs.Slices.{PictureStart, Progress, progress}
use Rattle.avc_picture.specs.Decoding.{Decoding, with_slice_more}
use Rattle.avc_decoder_core.specs.History.{History, stored_frames}
use Rattle.avc_decoder_core.specs.SequenceState.{SequenceState, AreStoredIn, current_history}

-- with which a picture is decoded, a slice of which has this header: an IDR picture needs none, as
-- it has I slices alone (7.4.3)
abbrev pub frames_for : Header → SequenceState → List (Frame 16)
frames_for h s = elim (is_idr h) [ true ↦ [] | false ↦ s.frames ]

-- its macroblocks are intra alone (Table 7-6)
abbrev pub IsISlice : Slice → Type 0
IsISlice s = is_p s.header ≡ false

-- The picture, a slice of which has this header, is decoded with its frames, which are those of the
-- history.
pub record HasItsFrames (s : SequenceState) (h : Header) (d : Decoding 16) : Type 0 where
  pub frames : d.frames ≡ frames_for h s
  pub intra : is_idr h ≡ true → All IsISlice d.slices
  pub stored : is_idr h ≡ false → AreStoredIn (current_history s) s.frames

-- the picture can have this slice more
pub record CanHave (s : SequenceState) (d : Decoding 16) (slice : Slice) : Type 0 where
  pub frames : HasItsFrames s slice.header d
  pub within : IsHeader d.sps d.pps slice.rbsp slice.header

-- what the slices are decoded with, where these are the reference frames
abbrev pub start_with : List StoredFrame → Decoding 16 → PictureStart
start_with frames d = record { sps = d.sps; pps = d.pps; frames = frames }

-- how far the picture is decoded, where it stands on this history
abbrev pub progress_on_history : History → Decoding 16 → Progress
progress_on_history history d = progress (start_with (stored_frames history) d) d.slices

-- how many macroblocks of one slice more are read, where the picture stands on this history
abbrev pub read_of_slice : History → Decoding 16 → Slice → ℕ
read_of_slice history d s =
    (progress_on_history history (with_slice_more s d)).read - (progress_on_history history d).read

-- On this history the slice is the first that has a fault, and this is the fault.
abbrev pub IsRefused : History → Decoding 16 → Slice → Fault → Type 0
IsRefused history d s f = (progress_on_history history d).fault ≡ Some (s.unit, f)
