use Rattle.avc_params.proofs.ParameterSets.{pps_in_force_is}
use Rattle.avc_params.proofs.laws.pps_in_force_keeps_limits.Goals as goal

pub returns : goal.returns
returns c = pps_in_force_is
