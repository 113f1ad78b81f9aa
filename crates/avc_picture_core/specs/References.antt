-- What the inter predictions of a slice are made from, ITU-T H.264 clauses 8.4.2.1 and 8.4.2.3.
use Rattle.std.specs.Prelude.{◌≡◌, ℕ, ◌≤◌, true, false, List, Option, Some, None, All, IfSome}
use Rattle.std.specs.Prelude.{slice_get, slice_index_or}
use Rattle.avc_types.specs.Pictures.{Coded}
use Rattle.avc_types.specs.declared.weight.Weight.{Weight}
use Rattle.avc_types.specs.declared.weight.Weights.{Weights}
use Rattle.avc_motion.specs.Motion.{frame_named, slice_info}
use Rattle.avc_plane.specs.Planes.{samples_of}
use Rattle.avc_plane.specs.Frames.{AreSized, padded_planes_of}
use Rattle.avc_inter.specs.Bounds.{IsWithin}
use Rattle.avc_picture_core.specs.Faults.{is_picture}
use Rattle.avc_picture_core.specs.declared.inter.ReferencePicture.{ReferencePicture}

-- Reference index r of the slice names this picture and these weights.
pub record IsReference {PAD : ℕ} (c : Coded) (slice r : ℕ) (p : ReferencePicture PAD) : Type 0 where
  pub decoding_index : ℕ
  pub frame : frame_named c slice r ≡ Some (record {
    decoding_index = decoding_index;
    existing = true;
    samples = samples_of (padded_planes_of p.planes.now);
  })
  pub weights : slice_get (slice_info c slice).weights r ≡ p.weights

-- the entry is the frame that reference index r names in the slice; there is none where it names no
-- picture (8.4.2.1)
abbrev pub ShowsReference : {PAD : ℕ} → Coded → (slice r : ℕ) → Option (ReferencePicture PAD) →
    Type 0
ShowsReference c slice r None = is_picture (frame_named c slice r) ≡ false
ShowsReference c slice r (Some p) = IsReference c slice r p

-- RefPicList0 of the slice by reference index: nothing where an index names no picture.
pub record AreReferences {PAD : ℕ} (c : Coded) (slice : ℕ)
    (references : List (Option (ReferencePicture PAD))) : Type 0 where
  pub each : (r : ℕ) → ShowsReference c slice r (slice_index_or references r None)

-- logWD 0 to 7, w0 -128 to 128, o0 -128 to 127 (7.4.3.2)
pub record IsWeight (w : Weight) : Type 0 where
  pub log2_denom : w.log2_denom ≤ 7
  pub weight : IsWithin 128 w.weight
  pub offset : IsWithin 128 w.offset

-- the weights of the three components are in their ranges (7.4.3.2)
pub record AreWeights (w : Weights) : Type 0 where
  pub luma : IsWeight w.luma
  pub cb : IsWeight w.cb
  pub cr : IsWeight w.cr

-- A reference picture of this size in macroblocks, with weights in their ranges.
pub record IsUsable {PAD : ℕ} (width height : ℕ) (p : ReferencePicture PAD) : Type 0 where
  pub sized : AreSized width height (padded_planes_of p.planes.now)
  pub weights : IfSome p.weights AreWeights

-- each entry's picture, where it has one, is of this size, with its weights in their ranges
abbrev pub AreUsable : {PAD : ℕ} → (width height : ℕ) → List (Option (ReferencePicture PAD)) →
    Type 0
AreUsable width height references = All (λ entry. IfSome entry (IsUsable width height)) references
