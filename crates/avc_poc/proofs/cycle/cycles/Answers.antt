use Rattle.avc_poc.proofs.OrderCounts.{◌∙◌, sym, subst, to_z-of_z, IsNear, w128, SFits, product_told_fits, cycles_told, cycles_near, cycles_fit}
use Rattle.avc_poc.proofs.cycle.cycles.Goals as goal

pub overflow_mul-result : goal.overflow_mul-result
overflow_mul-result c =
    product_told_fits c.args.count c.args.whole _ _ c.requires.count c.requires.whole c.from.ensures c.from-2.ensures

pub overflow_add-result : goal.overflow_add-result
overflow_add-result c =
    let told = cycles_told c.args.count c.args.whole c.args.first _ _ _ c.requires.count c.requires.whole c.requires.first c.from.ensures c.from-2.ensures c.from-3.ensures in
    subst (SFits w128) (sym told) (cycles_fit c.args.count c.args.whole c.args.first c.requires.count c.requires.whole c.requires.first)

pub returns-clause-value : goal.returns-clause-value
returns-clause-value c =
    let told = cycles_told c.args.count c.args.whole c.args.first _ _ _ c.requires.count c.requires.whole c.requires.first c.from.ensures c.from-2.ensures c.from-3.ensures in
    to_z-of_z w128 _ (overflow_add-result c) ∙ told

pub returns-clause-small : goal.returns-clause-small
returns-clause-small c =
    subst (IsNear 75) (sym (returns-clause-value c)) (cycles_near c.args.count c.args.whole c.args.first c.requires.count c.requires.whole c.requires.first)
