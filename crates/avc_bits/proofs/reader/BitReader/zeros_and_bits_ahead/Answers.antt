use Rattle.avc_bits.proofs.Reading.{◌+◌, arith, refl, sym, ap, ◌∙◌, passed, reader_bits, length-ahead, before_from, zeros_value, u_after}
use Rattle.std.specs.Int.Count.{count_leading_zeros}
use Rattle.avc_bits.proofs.reader.BitReader.zeros_and_bits_ahead.Goals as goal

pub overflow_cast-result : goal.overflow_cast-result
overflow_cast-result c =
    let all = zeros_value c.args.self.now c.from.result (count_leading_zeros 32 c.bits_of_eight-bits.result) c.args.count (omega (arith, length-ahead c.args.self.now))
    (c.from.ensures ∙ c.bits_of_eight-bits.ensures.value) (ap (λ v. count_leading_zeros 32 v) (sym c.from.ensures)) (omega arith) c.requires.narrow in
    omega (arith, all.3)

pub returns : goal.returns
returns c =
    let r = c.args.self.now in
    let zeros = count_leading_zeros 32 c.bits_of_eight-bits.result in
    let b = reader_bits r in
    let all = zeros_value r c.from.result zeros c.args.count (omega (arith, length-ahead r)) (c.from.ensures ∙ c.bits_of_eight-bits.ensures.value) (ap (λ v. count_leading_zeros 32 v) (sym c.from.ensures)) (omega arith) c.requires.narrow in
    record {
      read = record {
        few = omega arith;
        below = all.2;
        zeros_read = λ limit fault more. before_from limit fault b (passed b (zeros + 1)) zeros all.0 (omega arith) (omega (arith, length-ahead r)) refl;
        value_read = u_after b (reader_bits c.after.result) (zeros + 1) c.args.count _ (omega (arith, length-ahead r)) all.1 c.after.ensures.bits;
        bytes = c.after.ensures.bytes;
      };
    }
