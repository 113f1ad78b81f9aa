-- Macroblocks that stand still one after another, whose samples are copied ahead of their decoding.
use Rattle.std.specs.Prelude.{◌≡◌, ℕ, ◌+◌, ◌*◌, ◌/◌, ◌%◌, ◌<◌, ◌≤◌, ◌⊎◌, true, List, Option}
use Rattle.std.specs.Prelude.{Result, Ok, Err}
use Rattle.avc_types.specs.declared.fault.Fault.{Fault}
use Rattle.avc_types.specs.Macroblock.{Mb}
use Rattle.avc_neigh.specs.Around.{Around, PictureInfo, around}
use Rattle.avc_neigh.specs.declared.neighbour_info.NeighbourInfo.{NeighbourInfo}
use Rattle.avc_motion.specs.Motion.{is_held, HasMotion}
use Rattle.avc_plane.specs.Planes.{Planes, samples_of}
use Rattle.avc_picture_core.specs.Built.{Place, size_of}
use Rattle.avc_picture_core.specs.Canvas.{CanvasState, IsBuilt, IsPlaceOn}
use Rattle.avc_picture_core.specs.Still.{AreInPlace}
use Rattle.avc_picture_core.specs.declared.inter.ReferencePicture.{ReferencePicture}
use Rattle.avc_picture.specs.MacroblockInfo.{still_info, IsNeighbourInfo}
use Rattle.avc_picture.specs.RowLate.{covering_address}
use Rattle.avc_picture.specs.Sizes.{IsSized}
use Rattle.avc_picture.specs.declared.slice_context.SliceContext.{SliceContext}

-- These macroblocks lie in one row of a picture of this width in macroblocks, and the planes have
-- the samples already that they have where they are skipped and stand still.
pub record IsRun {PAD : ℕ} (references : List (Option (ReferencePicture PAD)))
    (width column row count : ℕ) (s : Planes) : Type 0 where
  pub within : column + count ≤ width
  pub in_place : AreInPlace references column row count s

-- likewise, if there are any
abbrev pub AreCopied : {PAD : ℕ} → List (Option (ReferencePicture PAD)) →
    (width column row count : ℕ) → Planes → Type 0
AreCopied references width column row count s =
    0 < count → IsRun references width column row count s

-- the same of so many macroblocks from this address on (6.4.1)
abbrev pub AreCopiedFrom : {PAD : ℕ} → List (Option (ReferencePicture PAD)) →
    (width address count : ℕ) → Planes → Type 0
AreCopiedFrom references width address count s =
    AreCopied references width (address % width) (address / width) count s

-- The samples of the macroblocks before this address are the same in both, of a picture of this
-- size in macroblocks.
pub record KeepsEarlier (width height address : ℕ) (old new : Planes) : Type 0 where
  pub sized : IsSized width height old → IsSized width height new
  pub same : (k x y : ℕ) → x < size_of k * width → y < size_of k * height →
      covering_address width k x y < address → samples_of new k x y ≡ samples_of old k x y

-- The macroblock at this address was built, or refused, after samples had been copied of it and of
-- those behind it, if any.
pub record IsBuiltAhead {PAD : ℕ} (address : ℕ) (mb : Mb) (info : NeighbourInfo) (n : Around)
    (references : List (Option (ReferencePicture PAD)))
    (result : Result (Unit {0}) Fault) (old new : CanvasState) : Type 0 where
  pub between : Planes
  pub earlier : KeepsEarlier old.width old.height address old.planes between
  pub built : (p : Place) →
      IsPlaceOn (record old { planes = between }) address mb info n references p →
      IsBuilt p result (record old { planes = between }) new

-- Where macroblocks of this row are copied from the next one on, a skipped one of this slice stands
-- still by that to its left alone (8.4.1.1), of which this is told.
pub record IsHeldByLeft (slice : ℕ) (row : PictureInfo) (info : NeighbourInfo) : Type 0 where
  pub told : info ≡ still_info slice
  pub held : is_held (around row slice) ≡ true

-- likewise, if any are copied
abbrev pub GoesOnStill : (count slice : ℕ) → PictureInfo → NeighbourInfo → Type 0
GoesOnStill count slice row info = 0 < count → IsHeldByLeft slice row info

-- What neighbours are told of this macroblock is known, and it was built, or refused, as above.
pub record IsBuiltAsTold {PAD : ℕ} (address : ℕ) (mb : Mb) (info : NeighbourInfo) (n : Around)
    (s : SliceContext PAD) (result : Result (Unit {0}) Fault) (old new : CanvasState) : Type 0 where
  pub motion : HasMotion n mb.syntax (Ok info.motion)
  pub told : IsNeighbourInfo s.number n old.constrained_intra_pred mb info
  pub ahead : IsBuiltAhead address mb info n s.references result old new

-- likewise, where its vectors can be had
abbrev pub IsToldAndBuilt : {PAD : ℕ} → (address : ℕ) → Mb → NeighbourInfo → Around →
    SliceContext PAD → Result (Unit {0}) Fault → (old new : CanvasState) → Type 0
IsToldAndBuilt address mb info n s (Ok done) old new =
    IsBuiltAsTold address mb info n s (Ok done) old new
IsToldAndBuilt address mb info n s (Err f) old new =
    HasMotion n mb.syntax (Err f) ⊎ IsBuiltAsTold address mb info n s (Err f) old new
