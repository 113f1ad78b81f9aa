use Rattle.std.proofs.Common.{codes}
use Rattle.std.specs.Fmt.{decimal}
use Rattle.avc_report.specs.Text.{first_line, macroblock_words, newline, sample_words}
use Rattle.avc_report.proofs.Lines.{joined_five, nine_parts}
use Rattle.avc_report.proofs.text.add_first.Goals as goal

pub returns : goal.returns
returns c =
    let d = c.args.difference.now in
    joined_five (first_line d) _ _ _ _ _ _ _ _ _ _ _ c.in_ok-push_str.ensures.bytes c.in_ok-add_macroblock.ensures c.in_ok-push_str-2.ensures.bytes c.in_ok-add_sample.ensures c.in_ok-writeln.ensures.bytes
    (nine_parts (codes "first: ") (macroblock_words d.place) (codes ", ") (sample_words d.place) (codes ": ") (decimal d.ours) (codes ", the other's ") (decimal d.theirs) newline)
