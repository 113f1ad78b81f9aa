use Rattle.avc_picture_core.proofs.InterTiles.{◌*◌, unwrap_or, luma_residual_16x16, intra16x16, seen_from, residual_over}
use Rattle.avc_types.specs.MacroblockFields.{residual_of}
use Rattle.avc_picture_core.proofs.intra.build_luma16x16.Goals as goal

pub returns-clause-size : goal.returns-clause-size
returns-clause-size g c = rw c.add_luma_residual_16x16.ensures c.predict_luma16x16.ensures.size

pub returns-clause-samples : goal.returns-clause-samples
returns-clause-samples g c = λ inside.
    let left = 16 * c.args.place.column in
    let top = 16 * c.args.place.row in
    rw (c.add_luma_residual_16x16.ensures, c.predict_luma16x16.ensures.samples inside)
    (residual_over c.args.plane.now left top 16 16 (λ x y. unwrap_or (intra16x16 c.args.sides (seen_from c.args.plane.now left top) c.args.mode x y) 0)
    (luma_residual_16x16 c.args.qp.value (residual_of c.args.levels.dc.now c.args.levels.blocks.now)) c.requires.macroblock.columns c.requires.macroblock.rows)
