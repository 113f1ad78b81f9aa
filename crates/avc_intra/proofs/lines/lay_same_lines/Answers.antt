use Rattle.avc_intra.proofs.Predictions.{arith, strided_line, strided_rows}
use Rattle.avc_intra.proofs.lines.lay_same_lines.Goals as goal

pub loop-y-preserved : goal.loop-y-preserved
loop-y-preserved g c =
    let put = c.put_line.ensures in
    strided_line _ _ _ _ _ _ _ _ c.requires.apart c.loop-y.invariant c.put_line.auto.rows put.here put.before put.behind

pub returns : goal.returns
returns g c = strided_rows _ _ _ _ _ _ _ _ (omega (arith, c.loop-y-test.false, c.loop-y.auto.y-end)) c.loop-y.invariant
