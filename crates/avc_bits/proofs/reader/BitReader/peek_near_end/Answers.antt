use Rattle.avc_bits.proofs.Reading.{arith, ap, sym, ◌∙◌, take, drop, bits_of, byte_bits, number_of, reader_bits, length-ahead, take-ahead, peek_fits, peek_from, within_bytes}
use Rattle.avc_bits.proofs.reader.BitReader.peek_near_end.Goals as goal

pub overflow_cast-result-2 : goal.overflow_cast-result-2
overflow_cast-result-2 c = grind (arith, peek_fits)

pub returns-clause-bits : goal.returns-clause-bits
returns-clause-bits c =
    let fits = peek_fits c.args.count c.left_near-there.result c.from-value.result (omega arith) (omega arith) (omega (arith, c.bits_at.ensures.bound)) in
    ap (bits_of c.args.count) fits.0
    ∙ peek_from (reader_bits c.args.self).ahead c.args.count c.left_near-there.result c.from-value.result (omega (arith, length-ahead c.args.self))
    (c.from-value.ensures ∙ c.bits_at.ensures.value ∙ ap (λ k. number_of (take c.left_near-there.result (drop k (byte_bits c.args.self.bytes.now)))) c.place.ensures ∙ ap number_of (sym (take-ahead c.args.self c.left_near-there.result (omega arith))))

pub returns-clause-below : goal.returns-clause-below
returns-clause-below c = grind (arith, peek_fits)

pub bits_at-requires-clause-inside : goal.bits_at-requires-clause-inside
bits_at-requires-clause-inside c some = omega (arith, within_bytes c.args.self c.left_near-there.result some (omega arith))
