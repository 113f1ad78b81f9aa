use Rattle.avc_bits.proofs.Reading.{arith, ◌∙◌, position_of, few_from, none_beyond}
use Rattle.avc_bits.proofs.reader.BitReader.bits_of_eight.Goals as goal

pub returns-clause-value : goal.returns-clause-value
returns-clause-value c =
    let r = c.args.self.now in
    c.field_of_eight.ensures.value
    ∙ few_from r.bytes.now r.byte r.bit (position_of r) c.args.count 8 c.eight_bytes.result (omega (arith, none_beyond r (omega arith))) (omega arith) (omega arith) c.eight_bytes.ensures
