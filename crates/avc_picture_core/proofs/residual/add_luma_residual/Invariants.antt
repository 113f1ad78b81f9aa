use Rattle.avc_picture_core.proofs.InterTiles.{◌*◌, block_at, residual_by_levels, AddedBefore}
use Rattle.avc_picture_core.proofs.residual.add_luma_residual.Given as goal

abbrev pub invariant-loop-quarter : goal.invariant-loop-quarter
invariant-loop-quarter g l = AddedBefore l.fn.plane l.plane 16 l.fn.place.column l.fn.place.row (16 * l.fn.place.column) (16 * l.fn.place.row) block_at (residual_by_levels l.qp.value l.levels.blocks.now.luma) (4 * l.quarter)
