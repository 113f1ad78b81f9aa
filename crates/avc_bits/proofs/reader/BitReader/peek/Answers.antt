use Rattle.avc_bits.proofs.Reading.{refl, arith, peek_window}
use Rattle.avc_bits.proofs.reader.BitReader.peek.Goals as goal

pub returns-then-is_far-clause-bits : goal.returns-then-is_far-clause-bits
returns-then-is_far-clause-bits c = peek_window c.args.self.now c.args.count c.next_bits.result (omega (arith, c.if-is_far.ensures.far refl, c.args.self.now.narrow)) c.requires c.next_bits.ensures.value
