use Rattle.avc_picture_core.proofs.InterTiles.{chroma_dc, chroma_number, residual_by_dc, AddedBefore}
use Rattle.avc_picture_core.proofs.residual.add_chroma_blocks4x4.Given as goal

abbrev pub invariant-loop-k : goal.invariant-loop-k
invariant-loop-k g l = AddedBefore l.fn.plane l.plane 8 l.fn.place.column l.fn.place.row l.column l.row chroma_number (residual_by_dc l.qp.value (chroma_dc l.qp.value l.dc) l.ac) l.k
