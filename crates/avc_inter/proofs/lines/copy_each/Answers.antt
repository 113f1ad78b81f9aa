use Rattle.avc_inter.proofs.SixRows.{arith, ◌∙◌, strided_line, strided_to}
use Rattle.avc_inter.proofs.lines.copy_each.Goals as goal

pub loop-y-preserved : goal.loop-y-preserved
loop-y-preserved g c =
    strided_line g.row.W c.loop-y.y c.args.to.first c.args.to.stride _ _ _ _ c.requires.apart c.loop-y.invariant c.put_line.auto.out
    (λ x column. c.put_line.ensures.here x column ∙ c.line_at-line.ensures x column) c.put_line.ensures.before c.put_line.ensures.behind

pub returns : goal.returns
returns g c = strided_to (omega (arith, c.loop-y-test.false, c.loop-y.auto.y-end)) c.loop-y.invariant
