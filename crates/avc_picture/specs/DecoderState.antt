-- What a picture decoder keeps of the slices so far.
use Rattle.std.specs.Prelude.{◌≡◌, ℕ, ◌+◌, ◌*◌, ◌≤◌, suc, ◌==◌, nat_lt, if◌then◌else◌, List, ◌++◌}
use Rattle.std.specs.Prelude.{◌∷◌, length, map, take, Option, Some, None, Result, Ok, Err}
use Rattle.std.specs.Option.{option_map}
use Rattle.avc_types.specs.declared.fault.Fault.{Fault}
use Rattle.avc_types.specs.declared.fault.Fault.TheVariants.{ArbitrarySliceOrder}
use Rattle.avc_types.specs.declared.fault.Fault.TheVariants.{MissingMacroblocks}
use Rattle.avc_types.specs.Macroblock.{Mb}
use Rattle.avc_types.specs.Pictures.{Coded, PicMb}
use Rattle.avc_params.specs.declared.sps.Sps.{Sps}
use Rattle.avc_params.specs.declared.pps.Pps.{Pps}
use Rattle.avc_params.specs.Limits.{width_in_mbs, height_in_mbs, size_in_mbs}
use Rattle.avc_params.specs.Within.{IsPps, IsSps}
use Rattle.avc_slice.specs.declared.slice.Slice.{Slice}
use Rattle.avc_mbsyntax.specs.Rest.{Follows, IsHandedOut, rest_of}
use Rattle.avc_bits.specs.Bits.{Bits}
use Rattle.avc_mbsyntax.specs.SliceData.{SliceMbs, SliceStart, placed, slice_data}
use Rattle.avc_mbsyntax.specs.declared.slice_data.SliceData.{SliceData}
use Rattle.avc_plane.specs.declared.frame.Frame.{Frame}
use Rattle.avc_deblock.specs.FilterInfo.{Names}
use Rattle.avc_picture.specs.Context.{AreNames, FramesStandAt, picture_start}
use Rattle.avc_picture.specs.Decoding.{AreFramesOf}
use Rattle.avc_picture.specs.FirstMbs.{BeginsWith, HoldsFirst, IsSlice, MbsState}
use Rattle.avc_picture.specs.Slices.{PictureStart, Progress, coded_of, first_mb_fault, progress}
use Rattle.avc_picture.specs.Slices.{with_slice}
use Rattle.avc_picture.specs.declared.slice_context.SliceContext.{SliceContext}

-- ---- a slice's data

-- how many macroblocks of a slice's data are read, and the fault that ends it: that of the first
-- faulty macroblock, or the data's own
abbrev pub first_of : Option (ℕ × Fault) → SliceMbs → ℕ × Option Fault
first_of None ms = (length ms.mbs, ms.fault)
first_of (Some found) ms = (found.0, Some found.1)

-- how many macroblocks of a slice's data count as read, and the first fault, where they begin at
-- this address
abbrev pub outcome : Coded → (address : ℕ) → SliceMbs → ℕ × Option Fault
outcome c address ms = first_of (first_mb_fault c address (length ms.mbs)) ms

-- Behind the macroblocks that are decoded, the picture has those that the data still has.
pub record GoesOn {PAD : ℕ} (c : Coded) (names : Names) (s : SliceStart) (m : MbsState)
    (d : SliceData) (context : SliceContext PAD) : Type 0 where
  pub holds : HoldsFirst c names m
  -- where the data still has macroblocks
  pub is_slice : (mb : Mb) (mbs : List Mb) → (rest_of s (take m.next c.mbs) d).mbs ≡ mb ∷ mbs →
      IsSlice c names context
  pub width : s.width ≡ c.width
  pub size : s.size ≡ c.width * c.height
  pub number : s.slice ≡ context.number
  pub quantiser : s.qp ≤ 51
  pub follows : Follows s (take m.next c.mbs) d
  pub later : List PicMb
  pub mbs : c.mbs ≡ take m.next c.mbs
      ++ (map (placed s) (rest_of s (take m.next c.mbs) d).mbs ++ later)

-- there is such a picture
pub record CanGoOn {PAD : ℕ} (m : MbsState) (d : SliceData)
    (context : SliceContext PAD) : Type 0 where
  pub coded : Coded
  pub names : Names
  pub start : SliceStart
  pub goes_on : GoesOn coded names start m d context

-- The first macroblock of the data has been read, and the picture goes on with the data as it was
-- before, under whatever the code then knows of the slice.
pub record HasFirst {PAD : ℕ} (Knows : SliceContext PAD → Type 0) (c : Coded) (names : Names)
    (s : SliceStart) (d : SliceData) (m : MbsState) (mb : Mb) (d' : SliceData) : Type 0 where
  pub goes_on : (context : SliceContext PAD) → Knows context → GoesOn c names s m d context
  pub first : IsHandedOut s (take m.next c.mbs) (Ok (Some mb)) d d'

-- there is such a picture, and such data
pub record CanHaveFirst {PAD : ℕ} (Knows : SliceContext PAD → Type 0) (m : MbsState) (mb : Mb)
    (d' : SliceData) : Type 0 where
  pub coded : Coded
  pub names : Names
  pub start : SliceStart
  pub unread : SliceData
  pub has_first : HasFirst Knows coded names start unread m mb d'

-- the same from what is left of the data
abbrev pub outcome_from : Coded → SliceStart → MbsState → SliceData → ℕ × Option Fault
outcome_from c s m d = outcome c m.next (rest_of s (take m.next c.mbs) d)

-- Some macroblocks more of the data are decoded, without a fault.
pub record GoesOnFrom {PAD : ℕ} (c : Coded) (names : Names) (s : SliceStart)
    (context : SliceContext PAD) (m : MbsState) (d : SliceData) (m' : MbsState)
    (d' : SliceData) : Type 0 where
  pub goes_on : GoesOn c names s m' d' context
  pub count : m.next + (outcome_from c s m d).0 ≡ m'.next + (outcome_from c s m' d').0
  pub fault : (outcome_from c s m d).1 ≡ (outcome_from c s m' d').1

-- the data of a slice with this start, of which nothing is read yet
abbrev pub IsDataOf : SliceStart → (before : List PicMb) → Bits → SliceData → Type 0
IsDataOf s before b d = Follows s before d × (rest_of s before d ≡ slice_data s before b)

-- All macroblocks of the data are decoded, or `read` macroblocks are read up to the first fault.
abbrev pub IsDataAnswer : Coded → Names → (first : ℕ) → (expected : ℕ × Option Fault) →
    Result (Unit {0}) Fault → (read : ℕ) → MbsState → Type 0
IsDataAnswer c names first expected (Ok done) read m =
    (expected.1 ≡ None) × (first + expected.0 ≡ read) × (m.next ≡ read) × HoldsFirst c names m
IsDataAnswer c names first expected (Err f) read m =
    (expected.1 ≡ Some f) × (first + expected.0 ≡ read)

-- ---- a slice

-- why a slice is refused that begins at this address, where another is expected
abbrev pub address_fault : (expected first : ℕ) → Option Fault
address_fault expected first =
    if nat_lt expected first then Some MissingMacroblocks
    else (if nat_lt first expected then Some ArbitrarySliceOrder else None)

-- The macroblocks so far are decoded, in each picture that begins with them.
pub record AreDecoded (p : PictureStart) (indices : List ℕ) (g : Progress) (slice_count : ℕ)
    (m : MbsState) : Type 0 where
  pub next : length g.mbs ≡ m.next
  pub count : length g.slices ≡ slice_count
  pub holds : (c : Coded) (names : Names) → BeginsWith c (coded_of p g) → AreNames indices names →
      HoldsFirst c names m

-- The slices so far have no fault, and `read` macroblocks.
pub record IsWellSoFar (p : PictureStart) (indices : List ℕ) (g : Progress) (slice_count read : ℕ)
    (m : MbsState) : Type 0 where
  pub none : g.fault ≡ None
  pub read_is : g.read ≡ read
  pub reached : m.next ≡ read
  pub few : slice_count ≤ read
  pub decoded : AreDecoded p indices g slice_count m

-- the number of the slice behind one with this number, in which the picture goes from so many
-- macroblocks to so many
abbrev pub number_after : (number before after : ℕ) → ℕ
number_after number before after = if before == after then number else suc number

-- after a slice of this unit
abbrev pub IsStateOrFault : PictureStart → (indices : List ℕ) → Progress → (unit slice_count : ℕ) →
    Result (Unit {0}) Fault → (read : ℕ) → MbsState → Type 0
IsStateOrFault p indices g unit slice_count (Ok done) read m =
    IsWellSoFar p indices g slice_count read m
IsStateOrFault p indices g unit slice_count (Err f) read m =
    (g.fault ≡ Some (unit, f)) × (g.read ≡ read)

-- The frames can stand somewhere, and the slices so far have no fault then.
pub record IsWellSomewhere {PAD : ℕ} (sps : Sps) (pps : Pps) (frames : List (Frame PAD))
    (slice_count read : ℕ) (m : MbsState) : Type 0 where
  pub indices : List ℕ
  pub stand : FramesStandAt indices frames
  pub so_far : Progress
  pub well : IsWellSoFar (picture_start sps pps indices frames) indices so_far slice_count read m

-- After the slice the macroblocks so far are decoded, or it is refused, wherever the frames stand.
abbrev pub IsDecodedSlice : {PAD : ℕ} → Sps → Pps → List (Frame PAD) → Slice → (number before : ℕ) →
    MbsState → Result (Unit {0}) Fault → (read : ℕ) → MbsState → Type 0
IsDecodedSlice sps pps frames slice number before m result read m' =
    (indices : List ℕ) (g : Progress) → FramesStandAt indices frames
    → IsWellSoFar (picture_start sps pps indices frames) indices g number before m
    → IsStateOrFault (picture_start sps pps indices frames) indices
    (with_slice (picture_start sps pps indices frames) slice g) slice.unit
    (number_after number before read) result read m'

-- ---- the picture

-- what is kept: the first fault, or the macroblocks
abbrev pub IsKeptAfter : PictureStart → (indices : List ℕ) → Progress → Option Fault →
    (slice_count read : ℕ) → MbsState → Type 0
IsKeptAfter p indices g None slice_count read m = IsWellSoFar p indices g slice_count read m
IsKeptAfter p indices g (Some f) slice_count read m =
    (option_map (λ found. found.1) g.fault ≡ Some f) × (g.read ≡ read)

-- The decoder's fields say of the slices so far, the newest first, how many macroblocks have been
-- read, the first fault, and, where there is none, what the macroblocks are.
pub record IsDecoderState {PAD : ℕ} (sps : Sps) (pps : Pps) (frames : List (Frame PAD))
    (slices : List Slice) (slice_count read : ℕ) (fault : Option Fault)
    (m : MbsState) : Type 0 where
  pub of_sps : IsSps sps
  pub of_pps : IsPps pps
  pub of_frames : AreFramesOf sps frames
  pub width : m.canvas.width ≡ width_in_mbs sps
  pub height : m.canvas.height ≡ height_in_mbs sps
  pub within : read ≤ size_in_mbs sps
  pub keeps : (indices : List ℕ) → FramesStandAt indices frames →
      IsKeptAfter (picture_start sps pps indices frames) indices
      (progress (picture_start sps pps indices frames) slices) fault slice_count read m
