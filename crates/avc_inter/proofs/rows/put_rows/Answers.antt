use Rattle.avc_inter.proofs.SixRows.{arith, strided_line, strided_to}
use Rattle.avc_inter.proofs.rows.put_rows.Goals as goal

pub loop-y-preserved : goal.loop-y-preserved
loop-y-preserved g c =
    strided_line g.row.W c.loop-y.y c.args.first c.args.stride _ _ _ _
    c.requires.apart c.loop-y.invariant c.put_row.auto.out c.put_row.ensures.here c.put_row.ensures.before c.put_row.ensures.behind

pub returns : goal.returns
returns g c = strided_to (omega (arith, c.loop-y-test.false, c.loop-y.auto.y-end)) c.loop-y.invariant
