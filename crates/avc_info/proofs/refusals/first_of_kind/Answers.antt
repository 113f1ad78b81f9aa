use Rattle.avc_info.proofs.RefusalKinds.{first_is}
use Rattle.avc_info.proofs.refusals.first_of_kind.Goals as goal

pub returns : goal.returns
returns c = first_is c.args.refusal
