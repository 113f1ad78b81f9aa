use Rattle.avc_poc.proofs.OrderCounts.{w32, SFits, rules, to_z-of_z, raw_0, raw_1, raw_2, number_low}
use Rattle.avc_poc.proofs.counting.raw_counts.Goals as goal

pub returns-in-Type0 : goal.returns-in-Type0
returns-in-Type0 c = raw_0 c.args.sps.now c.args.header.now c.args.previous c.args.number _ _ c.in-Type0.is c.counts_0.ensures

pub returns-in_ok-number-in-Type1 : goal.returns-in_ok-number-in-Type1
returns-in_ok-number-in-Type1 c =
    let first_fits : SFits w32 c.in-Type1.offset_for_non_ref_pic = search rules in
    let second_fits : SFits w32 c.in-Type1.offset_for_top_to_bottom_field = search rules in
    raw_1 c.args.sps.now c.args.header.now c.args.previous c.args.number _ _ _ _ _ _ _ _ _ c.in-Type1.is c.in_ok-number-in-Type1.ensures
    (to_z-of_z w32 _ first_fits) (to_z-of_z w32 _ second_fits) c.as_slice.ensures c.counts_1.ensures

pub returns-in_ok-number-in-Type2 : goal.returns-in_ok-number-in-Type2
returns-in_ok-number-in-Type2 c =
    raw_2 c.args.sps.now c.args.header.now c.args.previous c.args.number _ _ c.in-Type2.is c.in_ok-number-in-Type2.ensures c.counts_2.ensures

pub counts_1-requires-clause-number : goal.counts_1-requires-clause-number
counts_1-requires-clause-number c = number_low c.args.number _ c.in_ok-number-in-Type1.ensures

pub counts_0-requires-clause-previous : goal.counts_0-requires-clause-previous
counts_0-requires-clause-previous c = c.requires.previous

pub counts_0-requires-clause-order : goal.counts_0-requires-clause-order
counts_0-requires-clause-order c = c.requires.order
