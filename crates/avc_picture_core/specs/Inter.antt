-- The samples of an inter macroblock from its reference pictures, ITU-T H.264 clause 8.4.2.
use Rattle.std.specs.Prelude.{◌≡◌, ℕ, pos, zero, suc, ◌+◌, ◌*◌, ◌/◌, ◌<◌, Bool, true, false}
use Rattle.std.specs.Prelude.{List, Option, Some, None, IfSome, Result, Ok, Err, is_some}
use Rattle.std.specs.Prelude.{slice_index_or}
use Rattle.std.specs.Option.{option_map}
use Rattle.std.specs.List.{list_all}
use Rattle.avc_types.specs.Pictures.{Coded}
use Rattle.avc_types.specs.declared.fault.Fault.{Fault}
use Rattle.avc_types.specs.declared.fault.Fault.TheVariants.{RefMissing}
use Rattle.avc_types.specs.declared.vector.Mv.{Mv}
use Rattle.avc_neigh.specs.Blocks.{block_at}
use Rattle.avc_neigh.specs.declared.neighbour_info.Motion.{Motion}
use Rattle.avc_neigh.specs.declared.neighbour_info.Motion.TheVariants as motions
use Rattle.avc_motion.specs.Motion.{vector_of}
use Rattle.avc_plane.specs.Plane.{sample, is_inside, with_block}
use Rattle.avc_plane.specs.Planes.{Planes}
use Rattle.avc_plane.specs.Frames.{padded_planes_of}
use Rattle.avc_inter.specs.Luma.{inter_luma}
use Rattle.avc_inter.specs.Chroma.{inter_chroma}
use Rattle.avc_picture_core.specs.Built.{size_of, luma_place, inter_predicted, reference_of}
use Rattle.avc_picture_core.specs.Built.{component_weight, weighted_by}
use Rattle.avc_picture_core.specs.Faults.{is_picture}
use Rattle.avc_picture_core.specs.Places.{HasMacroblock}
use Rattle.avc_picture_core.specs.References.{AreWeights}
use Rattle.avc_picture_core.specs.declared.inter.ReferencePicture.{ReferencePicture}
use Rattle.avc_picture_core.specs.declared.places.MbPlace.{MbPlace}
use Rattle.avc_picture_core.specs.declared.shape.Shape.{Shape}
use Rattle.avc_picture_core.specs.declared.shape.Shape.TheVariants.{Whole, WideHalves, TallHalves}
use Rattle.avc_picture_core.specs.declared.shape.Shape.TheVariants.{Quarters}

-- ---- the samples of a macroblock

-- Planes with the samples f of each component in a rectangle of luma samples of the macroblock in
-- this column and row, and in its half of chroma: f(k, x, y) is that of component k, x and y
-- counted inside the macroblock (6.2, 6.4.1).
abbrev pub with_part : (column row left top width height : ℕ) → (ℕ → ℕ → ℕ → ℕ) → Planes → Planes
with_part column row left top width height f s = record {
  luma = with_block s.luma (16 * column + left) (16 * row + top) width height
      (λ x y. f 0 (left + x) (top + y));
  cb = with_block s.cb (8 * column + left / 2) (8 * row + top / 2) (width / 2) (height / 2)
      (λ x y. f 1 (left / 2 + x) (top / 2 + y));
  cr = with_block s.cr (8 * column + left / 2) (8 * row + top / 2) (width / 2) (height / 2)
      (λ x y. f 2 (left / 2 + x) (top / 2 + y));
}

-- what the luma block has that covers the sample (x, y) of component k (8.4.2.2)
abbrev pub motion_at : List Motion → (k x y : ℕ) → Motion
motion_at motion k x y =
    slice_index_or motion (block_at (luma_place k x) (luma_place k y)) motions.Absent

-- the inter prediction of the sample (x, y) of component k of the macroblock in this column and row
-- (8.4.2)
abbrev pub predicted_at : Coded → (slice column row : ℕ) → List Motion → (k x y : ℕ) → ℕ
predicted_at c slice column row motion k x y =
    inter_predicted c slice (motion_at motion k x y) k (size_of k * column + x)
    (size_of k * row + y)

-- Each block has a picture, and the macroblock's samples are predicted from them; or one has none.
abbrev pub IsInterPredicted : Coded → (slice column row : ℕ) → List Motion →
    Result (Unit {0}) Fault → (old new : Planes) → Type 0
IsInterPredicted c slice column row motion (Ok done) old new =
    (list_all (λ m. is_picture (reference_of c slice m)) motion ≡ true)
    × (new ≡ with_part column row 0 0 16 16 (predicted_at c slice column row motion) old)
IsInterPredicted c slice column row motion (Err f) old new =
    (f ≡ RefMissing) × (list_all (λ m. is_picture (reference_of c slice m)) motion ≡ false)

-- ---- the same by the list of reference pictures alone

-- the picture that a block is predicted from
abbrev pub picture_in : {PAD : ℕ} → List (Option (ReferencePicture PAD)) → Motion →
    Option (ReferencePicture PAD)
picture_in references motions.Absent = None
picture_in references motions.Intra = None
picture_in references (motions.Inter r v) = slice_index_or references r None

-- each block has one
abbrev pub have_pictures : {PAD : ℕ} → List (Option (ReferencePicture PAD)) → List Motion → Bool
have_pictures references motion = list_all (λ m. is_some (picture_in references m)) motion

-- the prediction of the sample (x, y) of component k of a picture of the size of these planes, by a
-- vector into them
abbrev pub fetched_from : Planes → Mv → (k x y : ℕ) → ℕ
fetched_from p v zero x y = inter_luma p.luma.width p.luma.height (sample p.luma) v x y
fetched_from p v (suc zero) x y = inter_chroma p.cb.width p.cb.height (sample p.cb) v x y
fetched_from p v (suc (suc k)) x y = inter_chroma p.cr.width p.cr.height (sample p.cr) v x y

-- and weighted (8.4.2.3)
unfoldable pub predicted_from : {PAD : ℕ} → ReferencePicture PAD → Mv → (k x y : ℕ) → ℕ
predicted_from p v k x y =
    weighted_by (option_map (component_weight k) p.weights)
    (fetched_from (padded_planes_of p.planes.now) v k x y)

-- the inter prediction from the picture, where there is one (8.4.2)
abbrev predicted_by : {PAD : ℕ} → Option (ReferencePicture PAD) → Mv → (k x y : ℕ) → ℕ
predicted_by None v k x y = 0
predicted_by (Some p) v k x y = predicted_from p v k x y

-- from the picture that a block names, where it names one
abbrev pub predicted_in : {PAD : ℕ} → List (Option (ReferencePicture PAD)) → Motion → (k x y : ℕ) →
    ℕ
predicted_in references m k x y = predicted_by (picture_in references m) (vector_of m) k x y

-- The macroblock in this column and row lies in a picture of the size of these planes.
pub record CoverMacroblock (column row : ℕ) (p : Planes) : Type 0 where
  pub luma : HasMacroblock 16 column row p.luma
  pub cb : HasMacroblock 8 column row p.cb
  pub cr : HasMacroblock 8 column row p.cr

-- The macroblock at this place does.
abbrev pub CoverPlace : MbPlace → Planes → Type 0
CoverPlace place p = CoverMacroblock place.column place.row p

-- It can be predicted from this reference picture.
pub record IsUsableAt {PAD : ℕ} (column row : ℕ) (p : ReferencePicture PAD) : Type 0 where
  pub planes : CoverMacroblock column row (padded_planes_of p.planes.now)
  pub weights : IfSome p.weights AreWeights

-- and from each of the list
pub record AreUsableAt {PAD : ℕ} (column row : ℕ)
    (references : List (Option (ReferencePicture PAD))) : Type 0 where
  pub each : (r : ℕ) → IfSome (slice_index_or references r None) (IsUsableAt column row)

-- By a vector of 0 the samples of the picture are taken over from their places (8.4.2.2), and they
-- are not weighted.
pub record IsCopied {PAD : ℕ} (p : ReferencePicture PAD) (v : Mv) : Type 0 where
  pub across : v.x ≡ pos 0
  pub down : v.y ≡ pos 0
  pub weights : p.weights ≡ None

-- what the samples of the macroblock in this column and row are to be
abbrev pub wanted : {PAD : ℕ} → List (Option (ReferencePicture PAD)) → (column row : ℕ) →
    List Motion → (k x y : ℕ) → ℕ
wanted references column row motion k x y =
    predicted_in references (motion_at motion k x y) k (size_of k * column + x)
    (size_of k * row + y)

-- ---- which blocks are predicted together

-- what block k has
abbrev pub block_motion : List Motion → (k : ℕ) → Motion
block_motion motion k = slice_index_or motion k motions.Absent

-- The quarters of a square, in block order, have these motions: those that are predicted together
-- have the same.
abbrev pub IsShape : (a b c d : Motion) → Shape → Type 0
IsShape a b c d Whole = (a ≡ b) × (c ≡ d) × (a ≡ c)
IsShape a b c d WideHalves = (a ≡ b) × (c ≡ d)
IsShape a b c d TallHalves = (a ≡ c) × (b ≡ d)
IsShape a b c d Quarters = Unit {0}

-- of quarter q of a macroblock, whose quarters are blocks
abbrev pub IsQuarterShape : List Motion → (q : ℕ) → Shape → Type 0
IsQuarterShape motion q shape =
    IsShape (block_motion motion (4 * q)) (block_motion motion (4 * q + 1))
    (block_motion motion (4 * q + 2)) (block_motion motion (4 * q + 3)) shape

-- in its quarters, where it is not predicted quarter by quarter, all four blocks are the same
abbrev pub HasWholeQuarters : List Motion → Type 0
HasWholeQuarters motion = (q : ℕ) → q < 4 → IsQuarterShape motion q Whole

-- Where a macroblock is not predicted quarter by quarter, each quarter has one motion.
abbrev pub IsMacroblockShape : List Motion → Shape → Type 0
IsMacroblockShape motion Quarters = Unit {0}
IsMacroblockShape motion Whole =
    HasWholeQuarters motion ×
    IsShape (block_motion motion 0) (block_motion motion 4) (block_motion motion 8)
    (block_motion motion 12) Whole
IsMacroblockShape motion WideHalves =
    HasWholeQuarters motion ×
    IsShape (block_motion motion 0) (block_motion motion 4) (block_motion motion 8)
    (block_motion motion 12) WideHalves
IsMacroblockShape motion TallHalves =
    HasWholeQuarters motion ×
    IsShape (block_motion motion 0) (block_motion motion 4) (block_motion motion 8)
    (block_motion motion 12) TallHalves

-- Each of the blocks in a rectangle of luma samples has the motion of the block in its upper left
-- corner.
pub record HaveOneMotion (motion : List Motion) (left top width height : ℕ) : Type 0 where
  pub same : (x y : ℕ) → is_inside left top width height x y ≡ true →
      block_motion motion (block_at x y) ≡ block_motion motion (block_at left top)
