use Rattle.avc_make.proofs.Slices.{data_alone}
use Rattle.avc_make.proofs.laws.data_stands_alone.Goals as goal

pub returns : goal.returns
returns c = data_alone
