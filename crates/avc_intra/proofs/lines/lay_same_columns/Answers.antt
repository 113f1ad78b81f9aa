use Rattle.avc_intra.proofs.Predictions.{arith, ◌∙◌, strided_line, strided_rows, get_or-replicate, left_kept}
use Rattle.avc_intra.proofs.lines.lay_same_columns.Goals as goal

pub loop-y-preserved : goal.loop-y-preserved
loop-y-preserved g c =
    let put = c.put_line.ensures in
    let had = c.loop-y.invariant in
    record {
      long = c.put_line.auto.rows ∙ had.long;
      done = λ narrow.
          strided_line _ _ _ _ _ _ _ _ c.requires.apart (had.done narrow) c.put_line.auto.rows
          (λ x column. put.here x column ∙ get_or-replicate g.row.W x _ 0 column
          ∙ left_kept _ _ _ _ _ _ _ (omega (arith, c.if-at-eq0.false)) narrow (had.done narrow)) put.before put.behind;
    }

pub returns-clause-lines : goal.returns-clause-lines
returns-clause-lines g c some narrow = strided_rows _ _ _ _ _ _ _ _ (omega (arith, c.loop-y-test.false, c.loop-y.auto.y-end)) (c.loop-y.invariant.done narrow)
