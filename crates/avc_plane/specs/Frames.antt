-- The planes and frames that the code keeps, as those of pictures and of a history.
use Rattle.std.specs.Prelude.{◌≡◌, ℕ, ◌*◌, ◌≤◌, true, false, List, [], ◌∷◌, length, All, is_some}
use Rattle.std.specs.Prelude.{IfSome}
use Rattle.std.proofs.Common.{arith}
use Rattle.avc_types.specs.References.{reference_of}
use Rattle.avc_types.specs.declared.marked_frame.MarkedFrame.{MarkedFrame}
use Rattle.avc_plane.specs.Planes.{Planes, StoredFrame, AreSubsampled}
use Rattle.avc_plane.specs.declared.frame.Frame.{Frame}
pub use Rattle.avc_plane.specs.Closed.{planes_of, padded_planes_of}

-- what reference lists and marking know of a frame
abbrev pub marked_frame : {PAD : ℕ} → Frame PAD → MarkedFrame
marked_frame f = record { frame_num = f.frame_num; existing = is_some f.planes; mark = f.mark }

-- the frame of an entry of the history, with its mark
abbrev pub stored_frame : {PAD : ℕ} → (index : ℕ) → Frame PAD → StoredFrame
stored_frame index f = record { reference = reference_of index (marked_frame f); planes = f.planes }

-- Of frames in decoding order, which have these decoding indices, the ones that are used for
-- reference.
abbrev pub stored_at : {PAD : ℕ} → (indices : List ℕ) → List (Frame PAD) → List StoredFrame
stored_at [] frames = []
stored_at (e ∷ indices) [] = []
stored_at (e ∷ indices) (f ∷ frames) =
    let others = stored_at indices frames in
    elim (is_some f.mark) [ true ↦ stored_frame e f ∷ others | false ↦ others ]

-- ---- sizes

-- planes of a picture of this size in macroblocks
pub record AreSized (width height : ℕ) (s : Planes) : Type 0 where
  pub luma_width : s.luma.width ≡ 16 * width
  pub luma_height : s.luma.height ≡ 16 * height
  pub cb_width : s.cb.width ≡ 8 * width
  pub cb_height : s.cb.height ≡ 8 * height
  pub cr_width : s.cr.width ≡ 8 * width
  pub cr_height : s.cr.height ≡ 8 * height

-- the chroma planes of such a picture are half as large as the luma plane
pub subsampled_of_size : (width height : ℕ) (s : Planes) → AreSized width height s → AreSubsampled s
subsampled_of_size width height s sized = record {
  cb_width = omega (arith, sized.luma_width, sized.cb_width);
  cb_height = omega (arith, sized.luma_height, sized.cb_height);
  cr_width = omega (arith, sized.luma_width, sized.cr_width);
  cr_height = omega (arith, sized.luma_height, sized.cr_height);
}

-- At most 16 frames, those that are pictures of this size in macroblocks.
pub record AreFrames {PAD : ℕ} (width height : ℕ) (frames : List (Frame PAD)) : Type 0 where
  pub few : length frames ≤ 16
  pub sized : All (λ f. IfSome f.planes (λ p. AreSized width height p)) frames
