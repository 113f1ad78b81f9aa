use Rattle.avc_picture_core.proofs.InterTiles.{◌*◌, ◌∙◌, sample, inter_chroma, laid_by, laid_weighted}
use Rattle.avc_picture_core.proofs.parts.set_chroma.Goals as goal

pub returns-in-None : goal.returns-in-None
returns-in-None g c =
    let p = c.args.reference.now in
    let a = c.args in
    c.predict_chroma.ensures
    ∙ laid_by a.plane.now (8 * a.place.column) (8 * a.place.row) a.corner.x a.corner.y g.row.W g.row.H (inter_chroma p.width p.height (sample p) a.mv) a.by c.in-None.is

pub returns-in-Some : goal.returns-in-Some
returns-in-Some g c =
    let p = c.args.reference.now in
    let a = c.args in
    c.set_weighted.ensures
    ∙ laid_weighted a.plane.now (8 * a.place.column) (8 * a.place.row) a.corner.x a.corner.y g.row.W g.row.H (inter_chroma p.width p.height (sample p) a.mv) a.by c.in-Some.by c.in-Some.is c.chroma.new.block c.chroma.ensures
