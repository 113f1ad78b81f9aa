use Rattle.avc_inter.proofs.SixRows.{three_words, row_there, ◌+◌, ◌*◌, arith, row_first, row_room, rows_done, sixteen_more, place_in, row_begins}
use Rattle.avc_inter.proofs.rows.whole_rows.Goals as goal

pub overflow_mul-y : goal.overflow_mul-y
overflow_mul-y g c = omega (arith, row_begins _ _ c.args.to.lanes _ (c.args.from.first + c.args.by) _ _ c.requires.samples c.loop-y-test.true)

pub overflow_add-from-in-loop-y : goal.overflow_add-from-in-loop-y
overflow_add-from-in-loop-y g c = omega (arith, row_begins _ _ c.args.to.lanes _ (c.args.from.first + c.args.by) _ _ c.requires.samples c.loop-y-test.true)

pub sixteen-row-requires : goal.sixteen-row-requires
sixteen-row-requires g c = (three_words, λ k low. row_there _ _ c.args.to.lanes _ (c.args.from.first + c.args.by) _ k _ c.requires.samples c.loop-y-test.true low)

pub overflow_mul-y-in-loop-y : goal.overflow_mul-y-in-loop-y
overflow_mul-y-in-loop-y g c = omega (arith, row_first _ _ _ c.args.to.lanes c.loop-y-test.true c.requires.room c.loop-y.invariant)

pub overflow_add-to : goal.overflow_add-to
overflow_add-to g c = omega (arith, row_first _ _ _ c.args.to.lanes c.loop-y-test.true c.requires.room c.loop-y.invariant)

pub put_rows-requires-clause-room : goal.put_rows-requires-clause-room
put_rows-requires-clause-room g c r low = row_room _ _ _ _ c.args.to.lanes c.loop-y-test.true c.requires.room c.loop-y.invariant low

pub overflow_add-from : goal.overflow_add-from
overflow_add-from g c = omega (arith, row_begins _ _ c.args.to.lanes _ (c.args.from.first + c.args.by) _ _ c.requires.samples c.loop-y-test.true)

pub loop-y-preserved : goal.loop-y-preserved
loop-y-preserved g c =
    sixteen_more c.loop-y.y c.sixteen-row.result c.args.to.lanes c.args.to.columns c.args.to.apart c.loop-y.invariant c.put_rows.ensures
    (λ r x low column. cc (c.sixteen-row.ensures (g.row.L * r + x) low, place_in _ c.args.from.stride c.args.to.lanes c.args.from.first c.args.by c.loop-y.y r x column))

pub returns : goal.returns
returns g c = rows_done _ _ _ c.loop-y.invariant c.loop-y-test.false c.loop-y.auto.y-end
