use Rattle.avc_decoder_core.proofs.Sequences.{long_gaps_leave_their_end}
use Rattle.avc_decoder_core.proofs.laws.long_gaps_leave_their_end.Goals as goal

pub returns : goal.returns
returns c = long_gaps_leave_their_end
