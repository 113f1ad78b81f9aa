use Rattle.avc_info.proofs.FirstSequence.{sequence_is_first}
use Rattle.avc_info.proofs.laws.sequence_is_first.Goals as goal

pub returns : goal.returns
returns c = sequence_is_first
