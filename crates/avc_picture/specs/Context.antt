-- What the macroblocks of a slice are decoded with, as the code takes it from the slice's header
-- and the frames of the buffer.
use Rattle.std.specs.Prelude.{◌≡◌, ℕ, ◌+ℤ◌, ◌<◌, List, length, map, Option, Some, None, Result, Ok}
use Rattle.std.specs.Prelude.{Err, IfSome, All, slice_get, slice_index, slice_index_or, unwrap_or}
use Rattle.std.specs.Option.{option_map}
use Rattle.avc_types.specs.declared.fault.Fault.{Fault}
use Rattle.avc_types.specs.Pictures.{Coded}
use Rattle.avc_types.specs.References.{Reference, StandAt, reference_at}
use Rattle.avc_params.specs.declared.sps.Sps.{Sps}
use Rattle.avc_params.specs.declared.pps.Pps.{Pps}
use Rattle.avc_slice.specs.declared.header.Header.{Header}
use Rattle.avc_slice.specs.Weights.{weights}
use Rattle.avc_motion.specs.Motion.{slice_info}
use Rattle.avc_plane.specs.Frames.{marked_frame, padded_planes_of, stored_at}
use Rattle.avc_plane.specs.declared.frame.Frame.{Frame}
use Rattle.avc_plane.specs.Planes.{Planes}
use Rattle.avc_deblock.specs.FilterInfo.{Names}
use Rattle.avc_picture_core.specs.declared.inter.ReferencePicture.{ReferencePicture}
use Rattle.avc_picture.specs.FirstMbs.{IsSlice}
use Rattle.avc_picture.specs.Slices.{PictureStart, deblocking_of, info_of, list_of}
use Rattle.avc_picture.specs.declared.slice_context.SliceContext.{SliceContext}

-- what a picture is decoded with, where its frames have these decoding indices
abbrev pub picture_start : {PAD : ℕ} → Sps → Pps → (indices : List ℕ) → List (Frame PAD) →
    PictureStart
picture_start sps pps indices frames = record {
  sps = sps;
  pps = pps;
  frames = stored_at indices frames;
}

-- the frames can have these decoding indices
abbrev pub FramesStandAt : {PAD : ℕ} → (indices : List ℕ) → List (Frame PAD) → Type 0
FramesStandAt indices frames = StandAt indices (map marked_frame frames)

-- a stored frame's number is its place among the frames in the buffer
pub record AreNames (indices : List ℕ) (names : Names) : Type 0 where
  pub all : names.count ≡ length indices
  pub each : (n : ℕ) → n < names.count → names.decoding_index n ≡ slice_index indices n

-- ---- RefPicList0 by the places of its frames in the buffer

-- each entry that is not empty is a place among the frames
abbrev pub ArePlacesIn : {PAD : ℕ} → List (Frame PAD) → List (Option ℕ) → Type 0
ArePlacesIn frames places = All (λ entry. IfSome entry (λ place. place < length frames)) places

-- Entry by entry the list has the frames at these places.
abbrev pub HasPlaces : {PAD : ℕ} → (indices : List ℕ) → List (Frame PAD) → List (Option Reference) →
    List (Option ℕ) → Type 0
HasPlaces indices frames list places =
    (r : ℕ) → slice_index_or list r None
    ≡ option_map (reference_at indices (map marked_frame frames)) (slice_index_or places r None)

-- The list of the slice has these places, or there is none, by this fault.
abbrev pub IsListAt : {PAD : ℕ} → PictureStart → (indices : List ℕ) → List (Frame PAD) → Header →
    Result (List (Option ℕ)) Fault → Type 0
IsListAt p indices frames h (Ok places) =
    (list : List (Option Reference)) × (list_of p h ≡ Ok list) ×
    HasPlaces indices frames list places
IsListAt p indices frames h (Err f) = list_of p h ≡ Err f

-- The answer is RefPicList0 as places among the frames, or its fault (8.2.4), whatever entries the
-- frames have.
abbrev pub HasList : {PAD : ℕ} → Sps → List (Frame PAD) → Header → Result (List (Option ℕ)) Fault →
    Type 0
HasList sps frames h answer =
    (pps : Pps) (indices : List ℕ) → FramesStandAt indices frames →
    IsListAt (picture_start sps pps indices frames) indices frames h answer

-- ---- the reference pictures

-- the planes of a frame; a non-existing one has none
abbrev planes_in : {PAD : ℕ} → Option (Frame PAD) → Option Planes
planes_in None = None
planes_in (Some f) = f.planes

-- the planes of the frame at a place of the buffer
abbrev pub planes_at : {PAD : ℕ} → List (Frame PAD) → Option ℕ → Option Planes
planes_at frames None = None
planes_at frames (Some place) = planes_in (slice_get frames place)

-- The reference picture is the one at the place, with the weights of reference index r; none where
-- no picture is there.
abbrev pub IsPictureAt : {PAD : ℕ} → List (Frame PAD) → Header → (r : ℕ) → Option ℕ →
    Option (ReferencePicture PAD) → Type 0
IsPictureAt frames h r place None = planes_at frames place ≡ None
IsPictureAt frames h r place (Some p) =
    (planes_at frames place ≡ Some (padded_planes_of p.planes.now)) ×
    (slice_get (weights h) r ≡ p.weights)

-- each of the first `count` reference indices has the picture of the frame at its place
abbrev pub ArePicturesAt : {PAD : ℕ} → List (Frame PAD) → Header → (count : ℕ) → List (Option ℕ) →
    List (Option (ReferencePicture PAD)) → Type 0
ArePicturesAt frames h count places pictures =
    (r : ℕ) → r < count →
    IsPictureAt frames h r (slice_index_or places r None) (slice_index_or pictures r None)

-- ---- the whole

-- In every picture in which the slice with this number has the info of the header and the list,
-- this is what the code knows of it.
abbrev pub IsContextOf : {PAD : ℕ} → PictureStart → (indices : List ℕ) → Header →
    List (Option Reference) → SliceContext PAD → Type 0
IsContextOf p indices h list s =
    (c : Coded) (names : Names) → AreNames indices names → slice_info c s.number
    ≡ info_of p h list → IsSlice c names s

-- each of the first `count` reference indices has the place of its frame as its number; 0 without a
-- place
abbrev pub AreNumbersAt : (count : ℕ) → List (Option ℕ) → (numbers : List ℕ) → Type 0
AreNumbersAt count places numbers =
    (r : ℕ) → r < count → slice_index_or numbers r 0 ≡ unwrap_or (slice_index_or places r None) 0

-- What the code knows of the slice with this number: of its header, and of the frames at the places
-- of its RefPicList0.
pub record IsContextAt {PAD : ℕ} (number : ℕ) (frames : List (Frame PAD)) (h : Header)
    (places : List (Option ℕ)) (s : SliceContext PAD) : Type 0 where
  pub number_is : s.number ≡ number
  pub full : length s.references ≡ 16
  pub pictures : ArePicturesAt frames h 16 places s.references
  pub numbers : AreNumbersAt 16 places s.frame_numbers
  pub edges : s.filtered_edges ≡ (deblocking_of h.deblocking).disable_deblocking_filter_idc
  pub offset_a : s.offset_a ≡ (deblocking_of h.deblocking).slice_alpha_c0_offset_div2
      +ℤ (deblocking_of h.deblocking).slice_alpha_c0_offset_div2
  pub offset_b : s.offset_b ≡ (deblocking_of h.deblocking).slice_beta_offset_div2
      +ℤ (deblocking_of h.deblocking).slice_beta_offset_div2
