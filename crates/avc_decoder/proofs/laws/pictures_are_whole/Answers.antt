use Rattle.avc_decoder.proofs.WholePictures.{are_whole}
use Rattle.avc_decoder.proofs.laws.pictures_are_whole.Goals as goal

pub returns : goal.returns
returns c = are_whole c.pictures_are_sized.ensures c.sps_in_force_keeps_limits.ensures
