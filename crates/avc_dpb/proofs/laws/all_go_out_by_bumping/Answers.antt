use Rattle.avc_dpb.proofs.EarlyOrder.{all_go_out_by_bumping}
use Rattle.avc_dpb.proofs.laws.all_go_out_by_bumping.Goals as goal

pub returns : goal.returns
returns c = all_go_out_by_bumping
