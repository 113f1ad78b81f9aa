-- Macroblocks that stand still: their samples are those of a reference picture at the same places,
-- ITU-T H.264 clause 8.4.2.2.
use Rattle.std.specs.Prelude.{◌≡◌, ℕ, ◌+◌, ◌*◌, ◌<◌, ◌≤◌, List, length, slice_index, Option, Some}
use Rattle.std.specs.Prelude.{None, slice_index_or}
use Rattle.avc_plane.specs.Frames.{padded_planes_of}
use Rattle.avc_plane.specs.Plane.{Plane, sample, with_block}
use Rattle.avc_plane.specs.Planes.{Planes}
use Rattle.avc_picture_core.specs.declared.inter.ReferencePicture.{ReferencePicture}

-- So many macroblocks of a row, from this column of macroblocks on, lie in planes of this size.
pub record CoverRun (column row count : ℕ) (p : Planes) : Type 0 where
  pub luma_columns : 16 * column + 16 * count ≤ p.luma.width
  pub luma_rows : 16 * row + 16 ≤ p.luma.height
  pub cb_columns : 8 * column + 8 * count ≤ p.cb.width
  pub cb_rows : 8 * row + 8 ≤ p.cb.height
  pub cr_columns : 8 * column + 8 * count ≤ p.cr.width
  pub cr_rows : 8 * row + 8 ≤ p.cr.height

-- a plane with the samples of another in a rectangle
abbrev pub with_rectangle_of : (from : Plane) → (left top width height : ℕ) → Plane → Plane
with_rectangle_of from left top width height p =
    with_block p left top width height (λ x y. sample from (left + x) (top + y))

-- a piece of a list is that of another, and nothing else has changed
pub record IsPieceOf (from : List ℕ) (start count : ℕ) (old new : List ℕ) : Type 0 where
  pub long : length new ≡ length old
  pub before : (k : ℕ) → k < start → slice_index new k ≡ slice_index old k
  pub inside : (k : ℕ) → k < count → slice_index new (start + k) ≡ slice_index from (start + k)
  pub behind : (k : ℕ) → start + count ≤ k → slice_index new k ≡ slice_index old k

-- planes with the samples of others in these macroblocks (6.2, 6.4.1)
abbrev pub with_run_of : (from : Planes) → (column row count : ℕ) → Planes → Planes
with_run_of from column row count s = record {
  luma = with_rectangle_of from.luma (16 * column) (16 * row) (16 * count) 16 s.luma;
  cb = with_rectangle_of from.cb (8 * column) (8 * row) (8 * count) 8 s.cb;
  cr = with_rectangle_of from.cr (8 * column) (8 * row) (8 * count) 8 s.cr;
}

-- in a rectangle the planes have the same samples
abbrev pub IsSameIn : (left top width height : ℕ) → (p q : Plane) → Type 0
IsSameIn left top width height p q =
    (x y : ℕ) → left ≤ x → x < left + width → top ≤ y → y < top + height →
    sample q x y ≡ sample p x y

-- in these macroblocks the planes have the same samples
pub record AreSameIn (column row count : ℕ) (s t : Planes) : Type 0 where
  pub luma : IsSameIn (16 * column) (16 * row) (16 * count) 16 s.luma t.luma
  pub cb : IsSameIn (8 * column) (8 * row) (8 * count) 8 s.cb t.cb
  pub cr : IsSameIn (8 * column) (8 * row) (8 * count) 8 s.cr t.cr

-- In these macroblocks the planes have the samples that they have where they are skipped and stand
-- still: those of the picture that reference index 0 names, which has no weights (8.4.1.1,
-- 8.4.2.2.1, 8.4.2.3).
pub record AreInPlace {PAD : ℕ} (references : List (Option (ReferencePicture PAD)))
    (column row count : ℕ) (s : Planes) : Type 0 where
  pub picture : ReferencePicture PAD
  pub named : slice_index_or references 0 None ≡ Some picture
  pub unweighted : picture.weights ≡ None
  pub same : AreSameIn column row count (padded_planes_of picture.planes.now) s
