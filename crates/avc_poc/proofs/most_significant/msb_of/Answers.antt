use Rattle.avc_poc.proofs.OrderCounts.{up_told, below_told, down_told, above_told, difference_fits, double_fits, msb_up_fits, msb_down_fits, msb_up_near, msb_down_near, msb_same_near}
use Rattle.avc_poc.proofs.most_significant.msb_of.Goals as goal

pub returns-then-max-previous-clause-value : goal.returns-then-max-previous-clause-value
returns-then-max-previous-clause-value c =
    up_told c.args.max c.args.lsb c.args.previous c.requires.max_small c.requires.msb_small c.requires.previous_small c.requires.lsb_small c.if-lsb-previous.true c.if-max-previous.true

pub returns-else-max-previous-clause-value : goal.returns-else-max-previous-clause-value
returns-else-max-previous-clause-value c =
    below_told c.args.max c.args.lsb c.args.previous c.requires.max_small c.requires.msb_small c.requires.previous_small c.requires.lsb_small c.if-lsb-previous.true c.if-max-previous.false

pub returns-then-max-lsb-clause-value : goal.returns-then-max-lsb-clause-value
returns-then-max-lsb-clause-value c =
    down_told c.args.max c.args.lsb c.args.previous c.requires.max_small c.requires.msb_small c.requires.previous_small c.requires.lsb_small c.if-lsb-previous-2.true c.if-max-lsb.true

pub returns-else-max-lsb-clause-value : goal.returns-else-max-lsb-clause-value
returns-else-max-lsb-clause-value c =
    above_told c.args.max c.args.lsb c.args.previous c.requires.max_small c.requires.msb_small c.requires.previous_small c.requires.lsb_small c.if-lsb-previous-2.true c.if-max-lsb.false

pub overflow_sub-previous : goal.overflow_sub-previous
overflow_sub-previous c = difference_fits _ _ c.requires.previous_small c.requires.lsb_small

pub overflow_mul-previous : goal.overflow_mul-previous
overflow_mul-previous c = double_fits _ _ c.requires.previous_small c.requires.lsb_small

pub overflow_add-result : goal.overflow_add-result
overflow_add-result c = msb_up_fits _ _ c.requires.msb_small c.requires.max_small

pub overflow_sub-lsb : goal.overflow_sub-lsb
overflow_sub-lsb c = difference_fits _ _ c.requires.lsb_small c.requires.previous_small

pub overflow_mul-lsb : goal.overflow_mul-lsb
overflow_mul-lsb c = double_fits _ _ c.requires.lsb_small c.requires.previous_small

pub overflow_sub-result : goal.overflow_sub-result
overflow_sub-result c = msb_down_fits _ _ c.requires.msb_small c.requires.max_small

pub returns-then-max-previous-clause-small : goal.returns-then-max-previous-clause-small
returns-then-max-previous-clause-small c = msb_up_near _ _ c.requires.msb_small c.requires.max_small

pub returns-else-max-previous-clause-small : goal.returns-else-max-previous-clause-small
returns-else-max-previous-clause-small c = msb_same_near _ c.requires.msb_small

pub returns-then-max-lsb-clause-small : goal.returns-then-max-lsb-clause-small
returns-then-max-lsb-clause-small c = msb_down_near _ _ c.requires.msb_small c.requires.max_small

pub returns-else-max-lsb-clause-small : goal.returns-else-max-lsb-clause-small
returns-else-max-lsb-clause-small c = msb_same_near _ c.requires.msb_small

pub returns-else-lsb-previous-2-clause-small : goal.returns-else-lsb-previous-2-clause-small
returns-else-lsb-previous-2-clause-small c = msb_same_near _ c.requires.msb_small
