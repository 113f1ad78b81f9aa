use Rattle.avc_params.proofs.ParameterSets.{sps_in_force_is}
use Rattle.avc_params.proofs.laws.sps_in_force_keeps_limits.Goals as goal

pub returns : goal.returns
returns c = sps_in_force_is
