use Rattle.avc_inter.proofs.SixRows.{three_words, ◌+◌, ◌*◌, ◌/◌, arith, ap, next_line, next_pair, rows_from, row_begins, row_first, row_room, row_within, sixteen_between, strided_to}
use Rattle.avc_inter.proofs.columns.lines_between.Goals as goal

pub overflow_mul-y-in-loop-pair : goal.overflow_mul-y-in-loop-pair
overflow_mul-y-in-loop-pair g c = omega (arith, row_begins _ _ c.args.to.lanes _ (c.args.from.first + c.args.by + 5 * c.args.from.stride) (2 * c.loop-pair.pair) _ c.requires.samples (omega (arith, c.loop-pair-test.true)))

pub overflow_add-from-in-loop-pair : goal.overflow_add-from-in-loop-pair
overflow_add-from-in-loop-pair g c = omega (arith, row_begins _ _ c.args.to.lanes _ (c.args.from.first + c.args.by + 5 * c.args.from.stride) (2 * c.loop-pair.pair) _ c.requires.samples (omega (arith, c.loop-pair-test.true)))

pub row_between-row-requires : goal.row_between-row-requires
row_between-row-requires g c = (
  three_words,
  (
    c.requires.sixteen,
    (
      c.loop-pair.invariant.taps,
      (
        λ k low. omega (arith, row_within _ _ c.args.to.lanes _ (c.args.from.first + c.args.by) (5 * c.args.from.stride) (2 * c.loop-pair.pair) k _ c.requires.samples (omega (arith, c.loop-pair-test.true)) low),
        λ k low. row_within _ _ c.args.to.lanes _ c.args.from.first _ (2 * c.loop-pair.pair) k _ c.requires.there (omega (arith, c.loop-pair-test.true)) low,
      ),
    ),
  ),
)

pub overflow_mul-y-in-loop-pair-2 : goal.overflow_mul-y-in-loop-pair-2
overflow_mul-y-in-loop-pair-2 g c = omega (arith, row_first _ (2 * c.loop-pair.pair) _ c.args.to.lanes (omega (arith, c.loop-pair-test.true)) c.requires.room c.loop-pair.invariant.set)

pub overflow_add-to : goal.overflow_add-to
overflow_add-to g c = omega (arith, row_first _ (2 * c.loop-pair.pair) _ c.args.to.lanes (omega (arith, c.loop-pair-test.true)) c.requires.room c.loop-pair.invariant.set)

pub put_rows-requires-clause-room : goal.put_rows-requires-clause-room
put_rows-requires-clause-room g c r low = row_room _ (2 * c.loop-pair.pair) _ _ c.args.to.lanes (omega (arith, c.loop-pair-test.true)) c.requires.room c.loop-pair.invariant.set low

pub overflow_mul-y-in-loop-pair-4 : goal.overflow_mul-y-in-loop-pair-4
overflow_mul-y-in-loop-pair-4 g c = omega (arith, row_begins _ _ c.args.to.lanes _ (c.args.from.first + c.args.by + 5 * c.args.from.stride) (2 * c.loop-pair.pair + 1) _ c.requires.samples (omega (arith, c.loop-pair-test.true)))

pub overflow_add-from-in-loop-pair-2 : goal.overflow_add-from-in-loop-pair-2
overflow_add-from-in-loop-pair-2 g c = omega (arith, row_begins _ _ c.args.to.lanes _ (c.args.from.first + c.args.by + 5 * c.args.from.stride) (2 * c.loop-pair.pair + 1) _ c.requires.samples (omega (arith, c.loop-pair-test.true)))

pub row_between-row-requires-in-loop-pair : goal.row_between-row-requires-in-loop-pair
row_between-row-requires-in-loop-pair g c = (
  three_words,
  (
    c.requires.sixteen,
    (
      rows_from (omega (arith, next_line g.row.L c.args.from.stride (2 * c.loop-pair.pair) c.requires.sixteen)) c.row_between-row.ensures.moved,
      (
        λ k low. omega (arith, row_within _ _ c.args.to.lanes _ (c.args.from.first + c.args.by) (5 * c.args.from.stride) (2 * c.loop-pair.pair + 1) k _ c.requires.samples (omega (arith, c.loop-pair-test.true)) low),
        λ k low. row_within _ _ c.args.to.lanes _ c.args.from.first _ (2 * c.loop-pair.pair + 1) k _ c.requires.there (omega (arith, c.loop-pair-test.true)) low,
      ),
    ),
  ),
)

pub overflow_mul-y-in-loop-pair-5 : goal.overflow_mul-y-in-loop-pair-5
overflow_mul-y-in-loop-pair-5 g c = omega (arith, row_first _ (2 * c.loop-pair.pair + 1) _ c.args.to.lanes (omega (arith, c.loop-pair-test.true)) c.requires.room c.loop-pair.invariant.set)

pub overflow_add-to-in-loop-pair : goal.overflow_add-to-in-loop-pair
overflow_add-to-in-loop-pair g c = omega (arith, row_first _ (2 * c.loop-pair.pair + 1) _ c.args.to.lanes (omega (arith, c.loop-pair-test.true)) c.requires.room c.loop-pair.invariant.set)

pub put_rows-requires-in-loop-pair-clause-room : goal.put_rows-requires-in-loop-pair-clause-room
put_rows-requires-in-loop-pair-clause-room g c r low = omega (arith, c.put_rows.ensures.long, row_room _ (2 * c.loop-pair.pair + 1) _ r c.args.to.lanes (omega (arith, c.loop-pair-test.true)) c.requires.room c.loop-pair.invariant.set low)

pub loop-pair-preserved : goal.loop-pair-preserved
loop-pair-preserved g c =
    let a = c.args in
    let y = 2 * c.loop-pair.pair in
    record {
      taps = rows_from {first = a.from.first + 2 * (c.loop-pair.pair + 1) * (16 / g.row.L * a.from.stride) + a.by} (omega (arith, next_pair g.row.L a.from.stride c.loop-pair.pair c.requires.sixteen)) c.row_between-row-in-loop-pair.ensures.moved;
      set = strided_to (ap (λ n. 16 / g.row.L * n) (omega arith))
          (sixteen_between (y + 1) c.row_between-row-in-loop-pair.result a.from a.by a.whole a.p.now a.to.lanes a.to.columns a.to.apart
          (sixteen_between y c.row_between-row.result a.from a.by a.whole a.p.now a.to.lanes a.to.columns a.to.apart c.loop-pair.invariant.set c.put_rows.ensures c.row_between-row.ensures.row)
          c.put_rows-in-loop-pair.ensures c.row_between-row-in-loop-pair.ensures.row);
    }

pub returns : goal.returns
returns g c = strided_to (ap (λ n. 16 / g.row.L * n) (omega (arith, c.requires.even, c.loop-pair-test.false, c.loop-pair.auto.pair-end))) c.loop-pair.invariant.set
