-- The place of a macroblock as the code knows it: by column and row, quantisers, and what its
-- neighbours let it read.
use Rattle.std.specs.Prelude.{◌≡◌, ℕ, true, ◌+◌, ◌*◌, ◌/◌, ◌%◌, ◌<◌, List, Option, Some, None}
use Rattle.std.specs.Prelude.{Result, Ok, Err}
use Rattle.avc_types.specs.declared.fault.Fault.{Fault}
use Rattle.avc_types.specs.Macroblock.{MbSyntax}
use Rattle.avc_neigh.specs.Blocks.{block_x, block_y}
use Rattle.avc_neigh.specs.declared.neighbour_info.NeighbourInfo.{NeighbourInfo}
use Rattle.avc_motion.specs.Motion.{is_intra}
use Rattle.avc_transform.specs.Residual.{chroma_qp}
use Rattle.avc_plane.specs.Plane.{Plane, HasRectangle}
use Rattle.avc_plane.specs.Planes.{Planes}
use Rattle.avc_picture_core.specs.Built.{Place, planes_after, sides_of}
use Rattle.avc_picture_core.specs.Faults.{refusal}
use Rattle.avc_picture_core.specs.References.{AreReferences}
use Rattle.avc_picture_core.specs.declared.inter.ReferencePicture.{ReferencePicture}
use Rattle.avc_picture_core.specs.declared.places.MbPlace.{MbPlace}
use Rattle.avc_picture_core.specs.declared.places.PictureSize.{PictureSize}
use Rattle.avc_picture_core.specs.Sides.{readable_sides, AreInside}
use Rattle.avc_picture_core.specs.declared.sides.ReadableNeighbours.{ReadableNeighbours}

-- p is the place of a macroblock in this column and row with these elements and quantisers.
pub record IsAt (column row : ℕ) (syntax : MbSyntax) (qp qp_of_chroma : ℕ)
    (p : Place) : Type 0 where
  pub column_is : p.address % p.coded.width ≡ column
  pub row_is : p.address / p.coded.width ≡ row
  pub syntax_is : p.mb.syntax ≡ syntax
  pub qp_is : p.mb.qp ≡ qp
  pub chroma_is : chroma_qp p.coded.chroma_qp_index_offset p.mb.qp ≡ qp_of_chroma

-- Its blocks may read what these neighbours have, in a luma plane that is so wide.
pub record MayRead (column row width : ℕ) (r : ReadableNeighbours) (p : Place) : Type 0 where
  pub sides : (k : ℕ) → k < 16 → sides_of p.coded p.address k ≡ readable_sides r k
  pub inside : (k : ℕ) → k < 16 →
      AreInside (16 * column + block_x k) (16 * row + block_y k) width (readable_sides r k)

-- The macroblock at this place lies in a picture of this size.
pub record IsIn (place : MbPlace) (size : PictureSize) : Type 0 where
  pub column : place.column < size.width
  pub row : place.row < size.height

-- The macroblock was built, or refused, and then the planes are any.
abbrev pub ArePlanesBuilt : Place → Result (Unit {0}) Fault → (old new : Planes) → Type 0
ArePlanesBuilt p (Ok done) old new = (refusal p ≡ None) × (new ≡ planes_after p old)
ArePlanesBuilt p (Err f) old new = refusal p ≡ Some f

-- ---- sizes

-- The macroblock in this column and row lies in the plane, which has so many columns and rows of
-- each macroblock (6.4.1).
abbrev pub HasMacroblock : (side column row : ℕ) → Plane → Type 0
HasMacroblock side column row p = HasRectangle (side * column) (side * row) side side p

-- the plane kept its sides
abbrev pub IsSameSize : (old new : Plane) → Type 0
IsSameSize old new = (new.width ≡ old.width) × (new.height ≡ old.height)

-- each plane kept its sides
abbrev pub AreSameSize : (old new : Planes) → Type 0
AreSameSize old new =
    IsSameSize old.luma new.luma × IsSameSize old.cb new.cb × IsSameSize old.cr new.cr

-- ---- all of it

-- p is the place of a macroblock of a picture of this size, with these elements, quantisers, info,
-- neighbours and reference pictures.
pub record IsPlaceIn {PAD : ℕ} (column row width height : ℕ) (syntax : MbSyntax)
    (qp qp_of_chroma : ℕ) (info : NeighbourInfo) (r : ReadableNeighbours)
    (references : List (Option (ReferencePicture PAD))) (p : Place) : Type 0 where
  pub at : IsAt column row syntax qp qp_of_chroma p
  pub may_read : is_intra syntax ≡ true → MayRead column row (16 * width) r p
  pub width_is : p.coded.width ≡ width
  pub height_is : p.coded.height ≡ height
  pub modes_are : p.modes ≡ info.modes
  pub motion_is : p.motion ≡ info.motion
  pub references_are : AreReferences p.coded p.slice references
