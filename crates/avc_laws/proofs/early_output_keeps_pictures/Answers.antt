use Rattle.avc_laws.proofs.Resuming.{early_output}
use Rattle.avc_laws.proofs.early_output_keeps_pictures.Goals as goal

pub returns : goal.returns
returns c = early_output c.early_output_keeps_histories.ensures
