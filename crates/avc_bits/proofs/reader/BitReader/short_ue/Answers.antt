use Rattle.avc_bits.proofs.Reading.{◌+◌, ◌*◌, arith, refl, rules, passed, reader_bits, short_ue_from}
use Rattle.avc_bits.proofs.reader.BitReader.short_ue.Goals as goal

pub overflow_sub-result-2 : goal.overflow_sub-result-2
overflow_sub-result-2 c =
    let b = reader_bits c.args.self.now in
    let f = c.front-front.result in
    (short_ue_from b (passed b (2 * f.zeros + 1)) f.count f.bits f.zeros _ c.front-front.ensures.count c.front-front.ensures.bits c.front-front.ensures.zeros (omega arith) refl refl).0

pub returns : goal.returns
returns c =
    let b = reader_bits c.args.self.now in
    let f = c.front-front.result in
    let all = short_ue_from b (passed b (2 * f.zeros + 1)) f.count f.bits f.zeros _ c.front-front.ensures.count c.front-front.ensures.bits c.front-front.ensures.zeros (omega arith) refl refl in
    record {
      read = record {
        within = omega (arith, c.front-front.ensures.count);
        below = search rules;
        read = all.1;
      };
    }
