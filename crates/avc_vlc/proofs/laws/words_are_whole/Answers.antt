use Rattle.avc_vlc.proofs.Entries.{chroma_zeros_whole, run_whole, token_whole, zeros_whole}
use Rattle.avc_vlc.proofs.laws.words_are_whole.Goals as goal

pub returns : goal.returns
returns c = record { tokens = token_whole; zeros = zeros_whole; chroma_zeros = chroma_zeros_whole; runs = run_whole }
