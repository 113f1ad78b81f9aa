use Rattle.std.proofs.Common.{append_assoc}
use Rattle.avc_report.specs.Text.{sample_words}
use Rattle.avc_report.proofs.Lines.{joined_two}
use Rattle.avc_report.proofs.text.add_sample.Goals as goal

pub returns : goal.returns
returns c = joined_two (sample_words c.args.place) _ _ _ _ _ c.in_ok-push_str.ensures.bytes c.in_ok-write.ensures.bytes (rw c.component_name.ensures (simp append_assoc))
