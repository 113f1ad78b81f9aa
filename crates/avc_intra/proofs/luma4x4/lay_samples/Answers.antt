use Rattle.avc_intra.proofs.Predictions.{laid4x4}
use Rattle.avc_intra.proofs.luma4x4.lay_samples.Goals as goal

pub returns : goal.returns
returns c f same = laid4x4 _ _ f _ _ _ same c.lay_block.ensures
