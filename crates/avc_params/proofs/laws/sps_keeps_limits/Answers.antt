use Rattle.avc_params.proofs.ParameterSets.{sps_accepted}
use Rattle.avc_params.proofs.laws.sps_keeps_limits.Goals as goal

pub returns : goal.returns
returns c = λ rbsp sps e. (sps_accepted rbsp sps e).within
