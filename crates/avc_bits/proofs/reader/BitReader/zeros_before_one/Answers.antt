use Rattle.avc_bits.proofs.Reading.{arith, reader_bits, length-ahead, before_from}
use Rattle.avc_bits.proofs.reader.BitReader.zeros_before_one.Goals as goal

pub returns-clause-read : goal.returns-clause-read
returns-clause-read c = (
  before_from c.args.limit c.args.fault (reader_bits c.args.self.now) (reader_bits c.after.result) c.front-zeros.result.zeros (omega arith) (omega arith) (omega (arith, length-ahead c.args.self.now)) c.after.ensures.bits,
  c.after.ensures.bytes,
)
