use Rattle.avc_picture_core.proofs.InterTiles.{◌*◌, chroma_residual, no_chroma, no_residual_added}
use Rattle.avc_picture_core.proofs.residual.add_chroma_residual.Goals as goal

pub returns-else-has_chroma_levels : goal.returns-else-has_chroma_levels
returns-else-has_chroma_levels g c =
    no_residual_added c.args.plane.now (8 * c.args.place.column) (8 * c.args.place.row) 8 8 (chroma_residual c.args.qp.value c.args.levels.dc.now c.args.levels.ac.now) c.holds_bytes.ensures.all c.holds_bytes.ensures.small
    (λ x y column row. no_chroma c.args.qp.value c.args.levels.dc.now c.args.levels.ac.now x y
    (c.has_chroma_levels.ensures.dc c.if-has_chroma_levels.false) (c.has_chroma_levels.ensures.ac c.if-has_chroma_levels.false) column row)
