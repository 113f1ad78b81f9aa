use Rattle.avc_picture_core.proofs.InterTiles.{arith, planes_of, wanted, two_below}
use Rattle.avc_picture_core.proofs.inter.predict_wide_halves.Goals as goal

pub returns : goal.returns
returns g c =
    let a = c.args in
    let from = a.from.now in
    let place = from.place in
    two_below place.column place.row a.upper.x a.upper.y g.row.S g.row.H g.row.S (wanted from.references.now place.column place.row from.motion.now) (planes_of a.planes.now) (planes_of c.predict_part.new.planes) (planes_of c.predict_part-2.new.planes)
    a.upper.even_y (omega (arith, a.upper.high)) (omega (arith, c.requires.square)) c.predict_part.ensures c.predict_part-2.ensures
