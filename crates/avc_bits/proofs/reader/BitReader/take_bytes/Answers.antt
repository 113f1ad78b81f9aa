use Rattle.avc_bits.proofs.Reading.{arith, reader_bits, bytes_from}
use Rattle.avc_bits.proofs.reader.BitReader.take_bytes.Goals as goal

pub returns-clause-read : goal.returns-clause-read
returns-clause-read c =
    let r = c.args.self.now in
    (bytes_from r c.args.count c.bytes_at.result.now (reader_bits c.after_bytes.result) c.requires.aligned c.requires.some (omega arith) c.bytes_at.ensures.part c.bytes_at.ensures.long c.bytes_at.ensures.small c.after_bytes.ensures.bits, c.after_bytes.ensures.bytes)
