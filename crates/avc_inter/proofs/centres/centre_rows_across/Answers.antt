use Rattle.std.proofs.Common.{ap₂}
use Rattle.avc_inter.proofs.SixRows.{three_words, ◌+◌, ◌*◌, arith, rules, ap, ◌∙◌, row_first, row_room, rows_done, sixteen_more, row_begins, samples_there, window_there, window_moved, sums_from, place_here, j_of, mean_of_two, half_along, rounded_at, mul-le-mul_right, ◌≤◌}
use Rattle.avc_inter.proofs.centres.centre_rows_across.Goals as goal

pub overflow_mul-y : goal.overflow_mul-y
overflow_mul-y g c = omega (arith, row_begins _ _ c.args.to.lanes _ c.args.block.from.first _ _ (samples_there _ _ c.args.to.lanes _ c.args.block.from.first _ c.args.block.room) c.loop-y-test.true)

pub overflow_add-from : goal.overflow_add-from
overflow_add-from g c = omega (arith, row_begins _ _ c.args.to.lanes _ c.args.block.from.first _ _ (samples_there _ _ c.args.to.lanes _ c.args.block.from.first _ c.args.block.room) c.loop-y-test.true)

pub overflow_mul-y-in-loop-y : goal.overflow_mul-y-in-loop-y
overflow_mul-y-in-loop-y g c = omega (arith, row_first _ _ _ c.args.to.lanes c.loop-y-test.true c.requires.room c.loop-y.invariant.set)

pub overflow_add-to : goal.overflow_add-to
overflow_add-to g c = omega (arith, row_first _ _ _ c.args.to.lanes c.loop-y-test.true c.requires.room c.loop-y.invariant.set)

pub begin-requires : goal.begin-requires
begin-requires g c = (three_words, λ k low. c.args.block.room k (omega arith))

pub middle_row-middle-requires : goal.middle_row-middle-requires
middle_row-middle-requires g c = (three_words, (window_there _ _ c.args.to.lanes _ c.args.block.from.first _ _ c.args.block.room c.loop-y-test.true, c.loop-y.invariant.sums))

pub put_rows-requires-clause-room : goal.put_rows-requires-clause-room
put_rows-requires-clause-room g c r low = row_room _ _ _ _ c.args.to.lanes c.loop-y-test.true c.requires.room c.loop-y.invariant.set low

pub rounded_row-half-requires-clause-small : goal.rounded_row-half-requires-clause-small
rounded_row-half-requires-clause-small g c k low =
    let below : c.args.down * g.row.L ≤ 5 * g.row.L = mul-le-mul_right g.row.L c.requires.down in
    c.middle_row-middle.ensures.sums.small k (omega (arith, below))

pub loop-y-preserved : goal.loop-y-preserved
loop-y-preserved g c = record {
  sums = window_moved g.row.L c.args.block.from.stride c.args.to.lanes _ c.args.block.from.first c.loop-y.y c.args.block.samples.now _ _ c.middle_row-middle.ensures.sums c.move_on.ensures;
  set = sixteen_more c.loop-y.y c.means_of-row.result c.args.to.lanes c.args.to.columns c.args.to.apart c.loop-y.invariant.set c.put_rows.ensures
      (λ r x low column. c.means_of-row.ensures (g.row.L * r + x) low ∙ ap₂ mean_of_two
      (c.middle_row-middle.ensures.row (g.row.L * r + x) low ∙ ap (j_of c.args.block.samples.now c.args.block.from.stride) (place_here _ c.args.block.from.stride c.args.to.lanes c.args.block.from.first c.loop-y.y r x column))
      (c.rounded_row-half.ensures (g.row.L * r + x) low
      ∙ rounded_at g.row.L c.args.block.from.stride c.args.to.lanes _ _ _ c.args.block.samples.now _ c.middle_row-middle.ensures.sums (omega arith) low c.args.down c.requires.down
      ∙ ap (λ i. half_along c.args.block.samples.now (c.args.down * c.args.block.from.stride + i) 1) (place_here _ c.args.block.from.stride c.args.to.lanes c.args.block.from.first c.loop-y.y r x column)));
}

pub loop-y-init : goal.loop-y-init
loop-y-init g c = record {
  sums = sums_from (omega arith) c.begin.ensures;
  set = search rules;
}

pub returns : goal.returns
returns g c = rows_done _ _ _ c.loop-y.invariant.set c.loop-y-test.false c.loop-y.auto.y-end
