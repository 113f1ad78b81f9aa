use Rattle.avc_picture_core.proofs.InterTiles.{ap, ◌∙◌, matrix, residual4x4, residual_same}
use Rattle.avc_picture_core.proofs.residual.add_coded_block4x4.Goals as goal

pub returns : goal.returns
returns g c =
    c.add_residual4x4.ensures
    ∙ residual_same c.args.plane.now c.args.left c.args.top 4 4 (matrix c.residual4x4-values.result) (residual4x4 c.args.qp.value c.args.levels.now)
    (λ x y column row. c.residual4x4-values.ensures.values x y column row ∙ ap (λ l. residual4x4 c.args.qp.value l x y) c.as_array.ensures)
