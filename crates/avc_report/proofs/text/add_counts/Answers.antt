use Rattle.std.proofs.Common.{append_assoc}
use Rattle.avc_report.specs.Text.{counts_line}
use Rattle.avc_report.proofs.Lines.{joined_two}
use Rattle.avc_report.proofs.text.add_counts.Goals as goal

pub returns : goal.returns
returns c = joined_two (counts_line c.args.number c.args.difference.now c.args.all_macroblocks) _ _ _ _ _ c.in_ok-write.ensures.bytes c.in_ok-writeln.ensures.bytes (simp append_assoc)
