use Rattle.avc_rbsp.proofs.Reading.{arith, filled_length}
use Rattle.avc_rbsp.proofs.maker.BitMaker.len.Goals as goal

pub returns : goal.returns
returns c = grind (arith, filled_length)
