use Rattle.std.proofs.Common.{◌∙◌, append_assoc}
use Rattle.avc_compare.proofs.text.add_picture.Goals as goal

pub returns : goal.returns
returns c = c.in_ok-writeln.ensures.bytes ∙ simp append_assoc
