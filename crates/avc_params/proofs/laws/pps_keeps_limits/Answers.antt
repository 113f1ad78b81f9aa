use Rattle.avc_params.proofs.ParameterSets.{pps_accepted}
use Rattle.avc_params.proofs.laws.pps_keeps_limits.Goals as goal

pub returns : goal.returns
returns c = λ rbsp pps e. (pps_accepted rbsp pps e).within
