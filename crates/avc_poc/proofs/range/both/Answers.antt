use Rattle.avc_poc.proofs.OrderCounts.{◌∙◌, err_is, top_refused, bottom_refused, w32, w128, SFits, to_z-of_z, rules, two_ok}
use Rattle.avc_poc.proofs.range.both.Goals as goal

pub returns : goal.returns
returns c =
    let top_fits : SFits w32 c.in_ok-top.top = search rules in
    let bottom_fits : SFits w32 c.in_ok-bottom.bottom = search rules in
    let first_fits : SFits w128 c.args.counts.0 = search rules in
    let second_fits : SFits w128 c.args.counts.1 = search rules in
    two_ok c.args.counts _ _ _ _ (to_z-of_z w128 _ first_fits) (to_z-of_z w128 _ second_fits) c.in_ok-top.ensures c.in_ok-bottom.ensures top_fits bottom_fits

pub returns-in_err-top : goal.returns-in_err-top
returns-in_err-top c =
    let fits : SFits w128 c.args.counts.0 = search rules in
    err_is c.from_residual.result c.in_err-top.field-0.0 c.from_residual.ensures.1 ∙ top_refused c.args.counts _ _ (to_z-of_z w128 _ fits) c.in_err-top.ensures

pub returns-in_err-bottom : goal.returns-in_err-bottom
returns-in_err-bottom c =
    let fits : SFits w128 c.args.counts.1 = search rules in
    err_is c.from_residual-in_err-bottom.result c.in_err-bottom.field-0.0 c.from_residual-in_err-bottom.ensures.1
    ∙ bottom_refused c.args.counts _ _ (to_z-of_z w128 _ fits) c.in_err-bottom.ensures
