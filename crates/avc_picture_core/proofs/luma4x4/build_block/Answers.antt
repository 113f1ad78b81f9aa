use Rattle.avc_picture_core.proofs.InterTiles.{unwrap_or, residual4x4, intra4x4, seen_from, residual_over}
use Rattle.avc_picture_core.proofs.luma4x4.build_block.Goals as goal

pub returns-clause-size : goal.returns-clause-size
returns-clause-size g c = rw c.add_block4x4.ensures c.predict_block.ensures.size

pub returns-clause-block : goal.returns-clause-block
returns-clause-block g c = λ inside.
    let left = c.args.left in
    let top = c.args.top in
    rw (c.add_block4x4.ensures, c.predict_block.ensures.samples inside)
    (residual_over c.args.plane.now left top 4 4 (λ x y. unwrap_or (intra4x4 c.args.sides (seen_from c.args.plane.now left top) c.args.mode x y) 0)
    (residual4x4 c.args.qp.value c.args.levels.now) c.requires.block.columns c.requires.block.rows)
