use Rattle.avc_rbsp.proofs.Reading.{rbsp_is_read}
use Rattle.avc_rbsp.proofs.laws.rbsps_are_read.Goals as goal

pub returns : goal.returns
returns c = rbsp_is_read
