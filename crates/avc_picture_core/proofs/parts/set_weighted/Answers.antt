use Rattle.avc_picture_core.proofs.InterTiles.{◌∙◌, Some, weighted_by, block_changed}
use Rattle.avc_picture_core.proofs.parts.set_weighted.Goals as goal

pub returns : goal.returns
returns g c =
    let a = c.args in
    c.set_block.ensures
    ∙ block_changed g.row.W g.row.H (weighted_by (Some a.by)) a.block.now c.as_slice.result.now a.plane.now a.x a.y c.requires.long (c.as_slice.ensures.value ∙ c.weighted-samples.ensures)
