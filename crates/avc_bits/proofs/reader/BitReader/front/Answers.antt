use Rattle.avc_bits.proofs.Reading.{arith, ◌∙◌, ap, sym, number_of, reader_bits, length-ahead, leading_from, leading_le, take-ahead}
use Rattle.avc_bits.proofs.reader.BitReader.front.Goals as goal

pub overflow_sub-zeros-2 : goal.overflow_sub-zeros-2
overflow_sub-zeros-2 c =
    (leading_from (reader_bits c.args.self.now).ahead c.left_within-count.result c.next_bits-bits.result (omega (arith, length-ahead c.args.self.now))
    (c.next_bits-bits.ensures.value ∙ ap number_of (sym (take-ahead c.args.self.now c.left_within-count.result (omega arith))))).0

pub returns : goal.returns
returns c =
    let len = length-ahead c.args.self.now in
    let bits = c.next_bits-bits.ensures.value ∙ ap number_of (sym (take-ahead c.args.self.now c.left_within-count.result (omega arith))) in
    let zeros = leading_from (reader_bits c.args.self.now).ahead c.left_within-count.result c.next_bits-bits.result (omega (arith, len)) bits in
    record { count = omega (arith, len); bits = bits; zeros = zeros.1; within = omega (arith, len, zeros.1, leading_le (reader_bits c.args.self.now).ahead) }
