use Rattle.avc_tools.proofs.Taking.{true, ap, ap₂, ◌∙◌, arith, after_feed, after_finish, header_line, header_lines_are, header_lines_under, max_unit, units_left}
use Rattle.avc_tools.proofs.headers.show_headers.Goals as goal

pub returns : goal.returns
returns c =
    let fed = c.in_ok-feed.ensures.ok ∙ ap (λ s. after_feed s c.args.bytes.now) c.new-splitter.ensures in
    c.in_ok-text.ensures.text
    ∙ ap₂ (λ sets s. header_lines_under header_line sets (units_left max_unit s)) c.new-reader.ensures (c.in_ok-finish.ensures.ok ∙ ap after_finish fed)
    ∙ header_lines_are header_line max_unit c.args.bytes.now true (omega arith)
