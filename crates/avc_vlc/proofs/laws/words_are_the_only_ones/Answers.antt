use Rattle.avc_vlc.proofs.Entries.{run_own, token_own, zeros_own}
use Rattle.avc_vlc.proofs.laws.words_are_the_only_ones.Goals as goal

pub returns : goal.returns
returns c = record { tokens = token_own; zeros = zeros_own; runs = run_own }
