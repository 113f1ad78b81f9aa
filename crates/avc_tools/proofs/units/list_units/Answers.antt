use Rattle.avc_tools.proofs.Taking.{true, ap, ◌∙◌, flat_map, after_feed, after_finish, line_of_unit, unit_line, units_left, unit_lines_are}
use Rattle.avc_tools.proofs.units.list_units.Goals as goal

pub returns : goal.returns
returns c =
    let fed = c.in_ok-feed.ensures.ok ∙ ap (λ s. after_feed s c.args.bytes.now) c.new-splitter.ensures in
    c.in_ok-text.ensures.text
    ∙ ap (λ s. flat_map (line_of_unit unit_line) (units_left 1 s)) (c.in_ok-finish.ensures.ok ∙ ap after_finish fed)
    ∙ unit_lines_are unit_line 1 c.args.bytes.now true
