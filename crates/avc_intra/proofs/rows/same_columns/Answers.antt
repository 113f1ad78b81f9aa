use Rattle.avc_intra.proofs.Predictions.{ℕ, ◌∙◌, arith, slice_index, length-replicate, get_or-replicate, row_room, rows_more}
use Rattle.avc_intra.proofs.rows.same_columns.Goals as goal

pub set_row-requires : goal.set_row-requires
set_row-requires g c =
    let row = length-replicate {A = ℕ} g.row.W (slice_index c.args.column.now c.loop-y.y) in
    omega (arith, row_room g.row.W g.row.N c.loop-y.y c.requires c.loop-y-test.true, row, c.loop-y.invariant.long)

pub loop-y-preserved : goal.loop-y-preserved
loop-y-preserved g c =
    let samples = c.args.column.now in
    let row = length-replicate {A = ℕ} g.row.W (slice_index samples c.loop-y.y) in
    record {
      long = c.set_row.auto.samples ∙ c.loop-y.invariant.long;
      done = rows_more g.row.W c.loop-y.y (λ x y. slice_index samples y) _ _ c.set_row.ensures.before
          (λ x column. c.set_row.ensures.here x (omega (arith, row, column)) ∙ get_or-replicate g.row.W x _ 0 column) c.loop-y.invariant.done;
    }
