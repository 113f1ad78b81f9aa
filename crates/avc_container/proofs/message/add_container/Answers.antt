use Rattle.avc_container.proofs.Joining.{joined}
use Rattle.avc_container.proofs.message.add_container.Goals as goal

pub returns : goal.returns
returns c = joined _ _ _ _ _ c.in_ok-add_name.ensures c.in_ok-push_str.ensures.bytes
