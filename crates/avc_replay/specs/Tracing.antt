-- The samples of a macroblock before deblocking, ITU-T H.264 clause 8.7, and what the filter is
-- told of it.
use Rattle.std.specs.Prelude.{◌≡◌, ℕ, ◌+◌, ◌-◌, ◌%◌, ◌<◌, ℤ, pos, Bool, true, false, List, [], ◌∷◌}
use Rattle.std.specs.Prelude.{Option, Some, None, nat_lt, nat_le, slice_get, slice_index}
use Rattle.std.specs.Prelude.{slice_index_or}
use Rattle.avc_params.specs.Limits.{width_in_mbs}
use Rattle.avc_plane.specs.declared.component.Component.{Component}
use Rattle.avc_plane.specs.declared.component.Component.TheVariants.{Luma, Cb, Cr}
use Rattle.avc_plane.specs.declared.frame.Frame.{Frame}
use Rattle.avc_deblock.specs.declared.mb_info.MbInfo.{MbInfo}
use Rattle.avc_picture.specs.Decoding.{Decoding, HasRead}
use Rattle.avc_picture.specs.OpenPicture.{HasFilterInfo, HasSample}
use Rattle.avc_difference.specs.declared.origin.SamplePair.{SamplePair}
use Rattle.avc_stages.specs.Motions.{motion_of}
use Rattle.avc_stages.specs.Stages.{counts_of}
use Rattle.avc_stages.specs.Strengths.{AreEdges}
use Rattle.avc_stages.specs.declared.text.Explained.{Explained}
use Rattle.avc_replay.specs.declared.tracing.Told.{Told}
use Rattle.avc_stages.specs.declared.traced.TracedSample.{TracedSample}

-- the number of a component
abbrev pub number_of : Component → ℕ
number_of Luma = 0
number_of Cb = 1
number_of Cr = 2

-- The sample that is shown in that place, the other's beside it, and the same sample of the open
-- picture.
pub record IsTraced (d : Decoding 16) (pair : SamplePair) (s : TracedSample) : Type 0 where
  pub ours_is : s.ours ≡ pair.ours
  pub theirs_is : s.theirs ≡ pair.theirs
  pub before_is : HasSample (number_of (pair.place).component) (pair.place).coded_column
      (pair.place).coded_row s.before d

-- one after another
abbrev pub AreTraced : Decoding 16 → List SamplePair → List TracedSample → Type 0
AreTraced d [] [] = Unit {0}
AreTraced d (pair ∷ pairs) (s ∷ ss) = IsTraced d pair s × AreTraced d pairs ss
AreTraced d [] (s ∷ ss) = ⊥
AreTraced d (pair ∷ pairs) [] = ⊥

-- The macroblock with this address, if it is a neighbour that the picture has: what the filter is
-- told of it.
abbrev pub IsBeside : (has : Bool) → (address : ℕ) → Decoding 16 → Option MbInfo → Type 0
IsBeside false address d beside = beside ≡ None
IsBeside true address d None = ⊥
IsBeside true address d (Some info) = HasFilterInfo address info d

-- What the filter is told of a macroblock and of those on the left of it and above it (8.7).
pub record IsTold (address : ℕ) (told : Told) (d : Decoding 16) : Type 0 where
  pub info_is : HasFilterInfo address told.info d
  pub left_is : IsBeside (nat_lt 0 (address % width_in_mbs d.sps)) (address - 1) d told.left
  pub above_is : IsBeside (nat_le (width_in_mbs d.sps) address) (address - width_in_mbs d.sps) d
      told.above

-- PicOrderCnt of the frame in this place (8.2.1)
abbrev pub HasOrderCount : List (Frame 16) → (place : ℕ) → (order_count : ℤ) → Type 0
HasOrderCount frames place order_count =
    (f : Frame 16) × (slice_get frames place ≡ Some f) × (order_count ≡ (f.info).pic_order_cnt)

-- of the reference pictures of an inter macroblock's quarters, which are these frames'
abbrev pub AreOrderCounts : List (Frame 16) → MbInfo → (order_counts : List ℤ) → Type 0
AreOrderCounts frames info order_counts =
    info.is_intra ≡ false → (q : ℕ) → q < 4 →
    HasOrderCount frames (slice_index info.pictures q) (slice_index_or order_counts q (pos 0))

-- What is told of the macroblock that came last of an open picture: its samples are those before
-- deblocking, since of the picture so far the filter has gone over rows above alone (8.7).
pub record IsExplained (address : ℕ) (pairs : List SamplePair) (d : Decoding 16)
    (frames : List (Frame 16)) (e : Explained) : Type 0 where
  pub samples : List TracedSample
  pub told : Told
  pub order_counts : List ℤ
  pub last : HasRead (address + 1) d
  pub address_is : e.address ≡ address
  pub traced : AreTraced d pairs samples
  pub counts_are : e.counts ≡ counts_of samples
  pub told_is : IsTold address told d
  pub edges_are : AreEdges told.left told.above told.info e.edges
  pub order_counts_are : AreOrderCounts frames told.info order_counts
  pub motion_is : e.motion ≡ motion_of told.info order_counts
