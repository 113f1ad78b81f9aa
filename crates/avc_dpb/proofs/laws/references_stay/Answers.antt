use Rattle.avc_dpb.proofs.EarlyOrder.{references_stay}
use Rattle.avc_dpb.proofs.laws.references_stay.Goals as goal

pub returns : goal.returns
returns c = references_stay
