use Rattle.avc_picture_core.proofs.InterTiles.{planes_of, part_unweighted}
use Rattle.avc_picture_core.proofs.parts.copy_part.Goals as goal

pub returns : goal.returns
returns g c =
    let a = c.args in
    let from = a.from in
    let still = c.requires.copied in
    part_unweighted from.picture.now from.mv from.place.column from.place.row a.part.x a.part.y g.row.W g.row.H g.row.CW g.row.CH (planes_of a.planes.now)
    (record { luma = c.copy_luma.new.plane; cb = c.copy_chroma.new.plane; cr = c.copy_chroma-2.new.plane }) a.part.wide a.part.high still.weights
    (c.copy_luma.ensures from.mv still.across still.down) (c.copy_chroma.ensures from.mv still.across still.down) (c.copy_chroma-2.ensures from.mv still.across still.down)
