use Rattle.avc_rbsp.proofs.Reading.{arith, to_z, of_z, w32, se_word}
use Rattle.avc_rbsp.proofs.maker.BitMaker.se.Goals as goal

pub returns : goal.returns
unfolding se_word
returns c = grind (arith, to_z, w32, of_z)
