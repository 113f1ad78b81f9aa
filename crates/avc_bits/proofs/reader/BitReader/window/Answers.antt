use Rattle.avc_bits.proofs.Reading.{arith, length-ahead, window_of_eight}
use Rattle.avc_bits.proofs.reader.BitReader.window.Goals as goal

pub returns : goal.returns
returns c = record {
  long = omega arith;
  number = window_of_eight c.args.self.now c.eight_bytes.result (omega (arith, length-ahead c.args.self.now)) c.eight_bytes.ensures;
}
