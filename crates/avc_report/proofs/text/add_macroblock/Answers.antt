use Rattle.std.proofs.Common.{append_assoc, ◌∙◌}
use Rattle.avc_report.proofs.text.add_macroblock.Goals as goal

pub returns : goal.returns
returns c = c.in_ok-write.ensures.bytes ∙ simp append_assoc
