use Rattle.avc_inter.proofs.SixRows.{arith, ◌∙◌, middle_at}
use Rattle.avc_inter.proofs.centres.middle_row.Goals as goal

pub centre_row-requires-clause-small : goal.centre_row-requires-clause-small
centre_row-requires-clause-small g c k low = c.put_sum_row.ensures.small k (omega arith)

pub returns-clause-row : goal.returns-clause-row
returns-clause-row g c k low =
    c.centre_row.ensures k low
    ∙ middle_at g.row.L c.args.source.stride c.args.source.lanes c.args.at k _ c.args.source.samples.now _ c.put_sum_row.ensures (omega arith) low
