use Rattle.avc_picture_core.proofs.InterTiles.{block_at, luma_dc, residual_by_dc, AddedBefore}
use Rattle.avc_picture_core.proofs.residual.add_luma_residual_16x16.Given as goal

abbrev pub invariant-loop-k : goal.invariant-loop-k
invariant-loop-k g l =
    AddedBefore l.fn.plane l.plane 16 l.fn.place.column l.fn.place.row l.column l.row block_at (residual_by_dc l.qp.value (luma_dc l.qp.value l.levels.dc.now) l.levels.blocks.now.luma) l.k
