-- What a picture decoder stands for, and how it answers.
use Rattle.std.specs.Prelude.{◌≡◌, ℕ, Bool, true, false, List, [], ◌∷◌, map, Option, Some, None}
use Rattle.std.specs.Prelude.{Result, Ok, Err}
use Rattle.std.specs.Option.{option_map}
use Rattle.avc_types.specs.declared.fault.Fault.{Fault}
use Rattle.avc_types.specs.declared.fault.Fault.TheVariants.{MissingMacroblocks}
use Rattle.avc_types.specs.References.{StandAt}
use Rattle.avc_params.specs.declared.sps.Sps.{Sps}
use Rattle.avc_params.specs.declared.pps.Pps.{Pps}
use Rattle.avc_params.specs.Limits.{width_in_mbs, height_in_mbs}
use Rattle.avc_slice.specs.declared.slice.Slice.{Slice}
use Rattle.avc_plane.specs.Frames.{AreFrames, padded_planes_of, marked_frame, stored_at}
use Rattle.avc_plane.specs.declared.frame.Frame.{Frame}
use Rattle.avc_plane.specs.declared.frame.PaddedPlanes.{PaddedPlanes}
use Rattle.avc_picture.specs.Slices.{PictureStart, Progress, progress, is_full, planes_after_slices}

-- The picture's parameter sets, the frames of the buffer in decoding order, and its slices so far,
-- the newest first.
pub record Decoding (PAD : ℕ) : Type 0 where
  pub sps : Sps
  pub pps : Pps
  pub frames : List (Frame PAD)
  pub slices : List Slice

-- a picture that has just been opened
abbrev pub no_slice_yet : {PAD : ℕ} → Sps → Pps → List (Frame PAD) → Decoding PAD
no_slice_yet sps pps frames = record { sps = sps; pps = pps; frames = frames; slices = [] }

-- with a slice more, the newest
abbrev pub with_slice_more : {PAD : ℕ} → Slice → Decoding PAD → Decoding PAD
with_slice_more s d = record d { slices = s ∷ d.slices }

-- at most 16 frames, those that are pictures of the size that the sequence parameter set gives
abbrev pub AreFramesOf : {PAD : ℕ} → Sps → List (Frame PAD) → Type 0
AreFramesOf sps frames = AreFrames (width_in_mbs sps) (height_in_mbs sps) frames

-- the frames can have these decoding indices
abbrev pub CanStandAt : {PAD : ℕ} → List ℕ → Decoding PAD → Type 0
CanStandAt indices d = StandAt indices (map marked_frame d.frames)

-- what the slices are decoded with, where the frames have these decoding indices
abbrev pub start_at : {PAD : ℕ} → List ℕ → Decoding PAD → PictureStart
start_at indices d = record { sps = d.sps; pps = d.pps; frames = stored_at indices d.frames }

-- how far the picture is then decoded
abbrev pub progress_at : {PAD : ℕ} → List ℕ → Decoding PAD → Progress
progress_at indices d = progress (start_at indices d) d.slices

-- No slice so far has a fault.
abbrev pub HasNoFault : {PAD : ℕ} → Decoding PAD → Type 0
HasNoFault d = (indices : List ℕ) → CanStandAt indices d → (progress_at indices d).fault ≡ None

-- One slice more was refused with this fault: it is the first fault in the slices so far, and it
-- stands in this slice where none was in those before.
pub record Refuses {PAD : ℕ} (old : Decoding PAD) (s : Slice) (f : Fault)
    (new : Decoding PAD) : Type 0 where
  pub fault : (indices : List ℕ) → CanStandAt indices new →
      option_map (λ found. found.1) (progress_at indices new).fault ≡ Some f
  pub unit : HasNoFault old → (indices : List ℕ) → CanStandAt indices new →
      (progress_at indices new).fault ≡ Some (s.unit, f)

-- From `old`, one slice more may be answered so and leave `new`.
abbrev pub IsSliceAnswer : {PAD : ℕ} → Decoding PAD → Slice → Result (Unit {0}) Fault →
    (new : Decoding PAD) → Type 0
IsSliceAnswer old s (Ok done) new = (new ≡ with_slice_more s old) × HasNoFault new
IsSliceAnswer old s (Err f) new = (new ≡ with_slice_more s old) × Refuses old s f new

-- The next expected address is the number of macroblocks.
abbrev pub IsFull : {PAD : ℕ} → (full : Bool) → Decoding PAD → Type 0
IsFull full d =
    (indices : List ℕ) → CanStandAt indices d → is_full (start_at indices d) (progress_at indices d)
    ≡ full

-- so many macroblocks have been read, up to the first fault
abbrev pub HasRead : {PAD : ℕ} → (count : ℕ) → Decoding PAD → Type 0
HasRead count d = (indices : List ℕ) → CanStandAt indices d → (progress_at indices d).read ≡ count

-- why there is no picture of the slices so far: the first fault in them, or else macroblocks that
-- are missing
abbrev pub fault_at_end : (first_fault : Option (ℕ × Fault)) → (full : Bool) → Option Fault
fault_at_end (Some found) full = Some found.1
fault_at_end None true = None
fault_at_end None false = Some MissingMacroblocks

-- the fault of a picture that is to be closed now: of its slices, or that macroblocks are missing
abbrev pub end_fault : {PAD : ℕ} → List ℕ → Decoding PAD → Option Fault
end_fault indices d =
    fault_at_end (progress_at indices d).fault
    (is_full (start_at indices d) (progress_at indices d))

-- The picture, or why there is none.
abbrev pub IsFinishAnswer : {PAD : ℕ} → Decoding PAD → Result (PaddedPlanes PAD) Fault → Type 0
IsFinishAnswer d (Ok planes) =
    ((indices : List ℕ) → CanStandAt indices d → end_fault indices d ≡ None)
    × ((indices : List ℕ) → CanStandAt indices d → padded_planes_of planes
    ≡ planes_after_slices (start_at indices d) d.slices)
IsFinishAnswer d (Err f) =
    (indices : List ℕ) → CanStandAt indices d → end_fault indices d ≡ Some f
