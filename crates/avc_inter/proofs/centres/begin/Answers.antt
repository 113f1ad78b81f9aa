use Rattle.avc_inter.proofs.SixRows.{three_words, ◌≡◌, ◌+◌, ◌*◌, ◌/◌, arith}
use Rattle.avc_inter.proofs.centres.begin.Goals as goal

pub put_sum_row-requires : goal.put_sum_row-requires
put_sum_row-requires g c = (three_words, (omega (arith, c.args.source.lanes.most), (λ k low. c.requires k (omega (arith, c.loop-row-test.true)), c.loop-row.invariant)))

pub returns : goal.returns
returns g c =
    let e : c.loop-row.row ≡ (5 * g.row.L + 15) / 16 = omega (arith, c.loop-row-test.false, c.loop-row.auto.row-end) in
    rw (← e) c.loop-row.invariant
