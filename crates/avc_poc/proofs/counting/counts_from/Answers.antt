use Rattle.avc_poc.proofs.OrderCounts.{ap, ◌∙◌, counts_by, in_range, number_in_range, count_pair, counts_of, pair, ok_is}
use Rattle.avc_poc.proofs.counting.counts_from.Goals as goal

pub returns : goal.returns
returns c =
    let sps = c.args.sps.now in
    let ok = ok_is (number_in_range sps.order_count c.args.number) (pair (counts_by sps.order_count sps c.args.header.now c.args.previous c.args.number)) c.in_ok-raw.raw c.in_ok-raw.ensures in
    record { counts = rw ok.0 (c.in_range.ensures ∙ ap (λ p. count_pair (in_range c.args.header.now (counts_of p))) ok.1) }
