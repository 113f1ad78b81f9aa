use Rattle.avc_dpb.proofs.EarlyOrder.{out_only_grows}
use Rattle.avc_dpb.proofs.laws.out_only_grows.Goals as goal

pub returns : goal.returns
returns c = out_only_grows
