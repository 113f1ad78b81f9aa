use Rattle.avc_units.proofs.SetUnits.{in_force_are_units}
use Rattle.avc_units.proofs.laws.sets_in_force_are_units.Goals as goal

pub returns : goal.returns
returns c = in_force_are_units
