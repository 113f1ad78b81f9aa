use Rattle.avc_bits.proofs.Reading.{window_bits}
use Rattle.avc_bits.proofs.reader.Window.bits.Goals as goal

pub returns-clause-bits : goal.returns-clause-bits
returns-clause-bits c = λ b is. window_bits _ c.args.self.bits c.args.first c.args.count b c.field_of_eight.ensures.value is.long is.number c.requires.within
