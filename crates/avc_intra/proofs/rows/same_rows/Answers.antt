use Rattle.avc_intra.proofs.Predictions.{◌∙◌, arith, slice_index, row_room, rows_more}
use Rattle.avc_intra.proofs.rows.same_rows.Goals as goal

pub set_row-requires : goal.set_row-requires
set_row-requires g c = omega (arith, row_room g.row.W g.row.N c.loop-y.y c.requires c.loop-y-test.true, c.told-row, c.loop-y.invariant.long)

pub loop-y-preserved : goal.loop-y-preserved
loop-y-preserved g c =
    let row = c.args.row.now in
    record {
      long = c.set_row.auto.samples ∙ c.loop-y.invariant.long;
      done = rows_more g.row.W c.loop-y.y (λ x y. slice_index row x) _ _ c.set_row.ensures.before
          (λ x column. c.set_row.ensures.here x (omega (arith, c.told-row, column))) c.loop-y.invariant.done;
    }
