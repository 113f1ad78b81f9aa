use Rattle.avc_plane.proofs.PlaneMaps.{arith, strided_line, strided_rows}
use Rattle.avc_plane.proofs.plane.rectangle.store.Goals as goal

pub overflow_mul-y : goal.overflow_mul-y
overflow_mul-y g c = omega (arith, c.requires.room c.loop-y.y c.loop-y-test.true, c.loop-y.invariant.long)

pub overflow_add-start : goal.overflow_add-start
overflow_add-start g c = omega (arith, c.requires.room c.loop-y.y c.loop-y-test.true, c.loop-y.invariant.long)

pub store_row-requires-clause-room : goal.store_row-requires-clause-room
store_row-requires-clause-room g c = omega (arith, c.requires.room c.loop-y.y c.loop-y-test.true, c.loop-y.invariant.long)

pub loop-y-preserved : goal.loop-y-preserved
loop-y-preserved g c =
    let set = c.store_row.ensures in
    strided_line _ _ _ _ _ _ _ _ c.requires.apart c.loop-y.invariant c.store_row.auto.stored set.inside set.before set.behind

pub returns : goal.returns
returns g c =
    let set = strided_rows _ _ g.row.H _ _ _ _ _ (omega (arith, c.loop-y-test.false, c.loop-y.auto.y-end)) c.loop-y.invariant in
    record { inside = set.inside; outside = set.outside }
