use Rattle.avc_laws.proofs.Resuming.{start_units}
use Rattle.avc_laws.proofs.start_units_begin_anew.Goals as goal

pub returns : goal.returns
returns c = start_units
