use Rattle.avc_vlc.proofs.Entries.{run_back, token_back, zeros_back}
use Rattle.avc_vlc.proofs.laws.words_are_read.Goals as goal

pub returns : goal.returns
returns c = record { tokens = token_back; zeros = zeros_back; runs = run_back }
