use Rattle.avc_info.proofs.Noted.{◌∙◌, append_assoc}
use Rattle.avc_info.proofs.text.add_set_identity.Goals as goal

pub returns : goal.returns
returns c = c.in_ok-write.ensures.bytes ∙ simp append_assoc
