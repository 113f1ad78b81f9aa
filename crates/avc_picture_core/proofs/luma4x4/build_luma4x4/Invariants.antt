use Rattle.avc_picture_core.proofs.InterTiles.{◌≡◌, [], ◌*◌, Place, with_blocks4x4, IsNxnAt}
use Rattle.avc_types.specs.MacroblockFields.{residual_of}
use Rattle.avc_picture_core.proofs.luma4x4.build_luma4x4.Given as goal

abbrev pub invariant-loop-quarter : goal.invariant-loop-quarter
invariant-loop-quarter g l = record {
  wide : l.plane.width ≡ l.fn.plane.width;
  high : l.plane.height ≡ l.fn.plane.height;
  done : (p : Place) → IsNxnAt l.fn.place.column l.fn.place.row l.fn.plane.width l.readable l.modes.in_order.now l.qp.value (residual_of [] l.levels.blocks.now) p → l.plane ≡ with_blocks4x4 p (4 * l.quarter) l.fn.plane;
}
