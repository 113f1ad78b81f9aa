use Rattle.avc_marking.proofs.KeptFrames.{window_takes_the_first}
use Rattle.avc_marking.proofs.laws.window_takes_the_first.Goals as goal

pub returns : goal.returns
returns c = window_takes_the_first
