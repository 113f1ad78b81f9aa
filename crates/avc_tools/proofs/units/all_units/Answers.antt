use Rattle.avc_tools.proofs.Taking.{true, ap, ◌∙◌, arith, after_feed, after_finish, max_unit, units_left, whole_units}
use Rattle.avc_tools.proofs.units.all_units.Goals as goal

pub returns : goal.returns
returns c =
    let fed = c.in_ok-feed.ensures.ok ∙ ap (λ s. after_feed s c.args.bytes.now) c.new-parts.ensures in
    c.in_ok-take_units_left.ensures
    ∙ ap (units_left max_unit) (c.in_ok-finish.ensures.ok ∙ ap after_finish fed)
    ∙ whole_units max_unit c.args.bytes.now true (omega arith)
