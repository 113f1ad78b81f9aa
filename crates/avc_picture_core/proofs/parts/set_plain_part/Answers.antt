use Rattle.avc_picture_core.proofs.InterTiles.{planes_of, part_unweighted}
use Rattle.avc_picture_core.proofs.parts.set_plain_part.Goals as goal

pub returns : goal.returns
returns g c =
    let a = c.args in
    let from = a.from.now in
    part_unweighted from.picture.now from.mv from.place.column from.place.row a.part.x a.part.y g.row.W g.row.H g.row.CW g.row.CH (planes_of a.planes.now)
    (record { luma = c.predict_luma.new.plane; cb = c.predict_both_chroma.new.cb; cr = c.predict_both_chroma.new.cr }) a.part.wide a.part.high c.requires.plain
    c.predict_luma.ensures c.predict_both_chroma.ensures.cb c.predict_both_chroma.ensures.cr
