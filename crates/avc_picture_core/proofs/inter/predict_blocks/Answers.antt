use Rattle.avc_picture_core.proofs.InterTiles.{refl, planes_of, wanted, four_parts}
use Rattle.avc_picture_core.proofs.inter.predict_blocks.Goals as goal

pub returns : goal.returns
returns g c =
    let a = c.args in
    let from = a.from.now in
    let place = from.place in
    four_parts place.column place.row a.quarter.x a.quarter.y 4 8 (wanted from.references.now place.column place.row from.motion.now) (planes_of a.planes.now) (planes_of c.predict_part.new.planes) (planes_of c.predict_part-2.new.planes) (planes_of c.predict_part-3.new.planes) (planes_of c.predict_part-4.new.planes)
    a.quarter.even_x a.quarter.even_y refl refl c.predict_part.ensures c.predict_part-2.ensures c.predict_part-3.ensures c.predict_part-4.ensures
