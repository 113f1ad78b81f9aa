use Rattle.avc_picture_core.proofs.InterTiles.{planes_of, part_predicted}
use Rattle.avc_picture_core.proofs.parts.set_weighted_part.Goals as goal

pub returns : goal.returns
returns g c =
    let a = c.args in
    let from = a.from in
    part_predicted from.picture.now from.mv from.place.column from.place.row a.part.x a.part.y g.row.W g.row.H g.row.CW g.row.CH
    c.component_weight.result c.component_weight-2.result c.component_weight-3.result
    (planes_of a.planes.now) (record { luma = c.set_luma.new.plane; cb = c.set_chroma.new.plane; cr = c.set_chroma-2.new.plane })
    a.part.wide a.part.high
    c.component_weight.ensures.value c.component_weight-2.ensures.value c.component_weight-3.ensures.value
    c.set_luma.ensures c.set_chroma.ensures c.set_chroma-2.ensures
