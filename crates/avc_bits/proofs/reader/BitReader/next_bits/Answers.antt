use Rattle.avc_bits.proofs.Reading.{arith, within_bytes}
use Rattle.avc_bits.proofs.reader.BitReader.next_bits.Goals as goal

pub bits_at-requires-clause-inside : goal.bits_at-requires-clause-inside
bits_at-requires-clause-inside c some = omega (arith, within_bytes c.args.self.now c.args.count some c.requires.there)
