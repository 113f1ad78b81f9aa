use Rattle.avc_difference.proofs.Windows.{named}
use Rattle.avc_difference.proofs.laws.places_name_samples.Goals as goal

pub returns : goal.returns
returns c = λ p k h. named p k h
