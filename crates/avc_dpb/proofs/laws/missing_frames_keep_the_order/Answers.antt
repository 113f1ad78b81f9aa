use Rattle.avc_dpb.proofs.EarlyOrder.{missing_frames_keep_the_order}
use Rattle.avc_dpb.proofs.laws.missing_frames_keep_the_order.Goals as goal

pub returns : goal.returns
returns c = missing_frames_keep_the_order
