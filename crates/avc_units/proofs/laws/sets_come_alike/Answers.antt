use Rattle.avc_units.proofs.SetUnits.{come_alike}
use Rattle.avc_units.proofs.laws.sets_come_alike.Goals as goal

pub returns : goal.returns
returns c = come_alike
