use Rattle.avc_dpb.proofs.EarlyOrder.{least_goes_out}
use Rattle.avc_dpb.proofs.laws.least_goes_out.Goals as goal

pub returns : goal.returns
returns c = least_goes_out
