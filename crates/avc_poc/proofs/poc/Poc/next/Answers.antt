use Rattle.avc_poc.proofs.OrderCounts.{◌≡◌, ap, ◌∙◌, arith, rules, OrderCountState, after_picture, count_pair, counts_after, counted, after_law, counts_law}
use Rattle.avc_poc.proofs.poc.Poc.next.Goals as goal

pub returns-in_err-counts-clause-counts : goal.returns-in_err-counts-clause-counts
returns-in_err-counts-clause-counts c older e =
    let sps = c.args.sps.now in
    let h = c.args.header.now in
    let told : c.from_residual.result ≡ count_pair (counts_after sps h c.args.self.now) = first_of (search rules, grind arith) in
    told ∙ ap (λ (s : OrderCountState). count_pair (counts_after sps h s)) e ∙ ap count_pair (counts_law sps h older)

pub record-requires-clause-counted : goal.record-requires-clause-counted
record-requires-clause-counted c = counted _ c.in_ok-counts.counts c.in_ok-counts.ensures

pub returns-clause-counts : goal.returns-clause-counts
returns-clause-counts c older e =
    let sps = c.args.sps.now in
    let h = c.args.header.now in
    c.in_ok-counts.ensures ∙ ap (λ (s : OrderCountState). count_pair (counts_after sps h s)) e ∙ ap count_pair (counts_law sps h older)

pub returns-clause-after : goal.returns-clause-after
returns-clause-after c older e =
    let sps = c.args.sps.now in
    let h = c.args.header.now in
    c.record.ensures ∙ ap (after_picture sps h) e ∙ after_law sps h older
