use Rattle.avc_units.proofs.SetUnits.{in_force_again}
use Rattle.avc_units.proofs.laws.sets_are_in_force_again.Goals as goal

pub returns : goal.returns
returns c = in_force_again c.sps_in_force_keeps_limits.ensures c.pps_in_force_keeps_limits.ensures
