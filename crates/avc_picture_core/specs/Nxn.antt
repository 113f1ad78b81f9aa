-- What the luma of an I_NxN macroblock is built from.
use Rattle.std.specs.Prelude.{◌≡◌, ℕ, ◌*◌, List}
use Rattle.avc_types.specs.Macroblock.{Residual}
use Rattle.avc_neigh.specs.declared.neighbour_info.NearMode.{NearMode}
use Rattle.avc_transform.specs.MacroblockResidual.{luma_residual}
use Rattle.avc_picture_core.specs.Built.{Place, left_of_mb, residual_at, top_of_mb}
use Rattle.avc_picture_core.specs.Places.{MayRead}
use Rattle.avc_picture_core.specs.declared.sides.ReadableNeighbours.{ReadableNeighbours}

-- p is the place of an I_NxN macroblock with these modes and this residual, as far as its luma
-- asks.
pub record IsNxnAt (column row width : ℕ) (r : ReadableNeighbours) (modes : List NearMode) (qp : ℕ)
    (residual : Residual) (p : Place) : Type 0 where
  pub left : left_of_mb p 0 ≡ 16 * column
  pub top : top_of_mb p 0 ≡ 16 * row
  pub may_read : MayRead column row width r p
  pub modes_are : p.modes ≡ modes
  pub residual_is : (x y : ℕ) → residual_at p 0 x y ≡ luma_residual qp residual x y
