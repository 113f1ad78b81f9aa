use Rattle.std.proofs.Common.{append_assoc}
use Rattle.avc_stages.specs.Text.{counts_line}
use Rattle.avc_stages.proofs.Joining.{joined_three}
use Rattle.avc_stages.proofs.text.add_counts.Goals as goal

pub returns : goal.returns
returns c = joined_three (counts_line c.args.address c.args.counts) _ _ _ _ _ _ _ c.in_ok-write.ensures.bytes c.in_ok-write-2.ensures.bytes c.in_ok-writeln.ensures.bytes (simp append_assoc)
