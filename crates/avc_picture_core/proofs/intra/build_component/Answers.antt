use Rattle.avc_picture_core.proofs.InterTiles.{◌*◌, unwrap_or, chroma_residual, intra_chroma, seen_from, residual_over}
use Rattle.avc_picture_core.proofs.intra.build_component.Goals as goal

pub returns-clause-size : goal.returns-clause-size
returns-clause-size g c = rw c.add_chroma_residual.ensures c.predict_component.ensures.size

pub returns-clause-samples : goal.returns-clause-samples
returns-clause-samples g c = λ inside.
    let left = 8 * c.args.place.column in
    let top = 8 * c.args.place.row in
    rw (c.add_chroma_residual.ensures, c.predict_component.ensures.samples inside)
    (residual_over c.args.plane.now left top 8 8 (λ x y. unwrap_or (intra_chroma c.args.sides (seen_from c.args.plane.now left top) c.args.mode x y) 0)
    (chroma_residual c.args.qp.value c.args.levels.dc.now c.args.levels.ac.now) c.requires.macroblock.columns c.requires.macroblock.rows)
