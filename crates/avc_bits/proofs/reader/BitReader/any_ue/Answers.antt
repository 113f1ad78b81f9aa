use Rattle.avc_bits.proofs.Reading.{arith, refl, reader_bits, short_ue_from}
use Rattle.avc_bits.proofs.reader.BitReader.any_ue.Goals as goal

pub overflow_sub-result-then-length-front : goal.overflow_sub-result-then-length-front
overflow_sub-result-then-length-front c =
    (short_ue_from (reader_bits c.args.self.now) (reader_bits c.after.result) c.front-front.result.count c.front-front.result.bits c.front-front.result.zeros _
    c.front-front.ensures.count c.front-front.ensures.bits c.front-front.ensures.zeros (omega arith) refl c.after.ensures.bits).0

pub returns-then-length-front-clause-read : goal.returns-then-length-front-clause-read
returns-then-length-front-clause-read c = (
  (short_ue_from (reader_bits c.args.self.now) (reader_bits c.after.result) c.front-front.result.count c.front-front.result.bits c.front-front.result.zeros _
      c.front-front.ensures.count c.front-front.ensures.bits c.front-front.ensures.zeros (omega arith) refl c.after.ensures.bits).1,
  c.after.ensures.bytes,
)
