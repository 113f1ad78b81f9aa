use Rattle.avc_bits.proofs.Reading.{arith, ◌+◌, ◌*◌, reader_bits, ue_from, ue_fits, within_bytes}
use Rattle.avc_bits.proofs.reader.BitReader.ue_after.Goals as goal

pub overflow_add-result : goal.overflow_add-result
overflow_add-result c = omega (arith, ue_fits c.args.zeros c.bits_at-tail.result (omega arith) c.bits_at-tail.ensures.bound)

pub returns-clause-read : goal.returns-clause-read
returns-clause-read c =
    let fits = ue_fits c.args.zeros c.bits_at-tail.result (omega arith) c.bits_at-tail.ensures.bound in
    (rw fits.0 (ue_from c.args.self.now (reader_bits c.after.result) c.args.zeros _ c.bits_at-tail.result (omega arith) (omega arith) (omega arith) (omega arith) c.bits_at-tail.ensures.value c.after.ensures.bits), c.after.ensures.bytes)

pub returns-clause-below : goal.returns-clause-below
returns-clause-below c = omega (arith, ue_fits c.args.zeros c.bits_at-tail.result (omega arith) c.bits_at-tail.ensures.bound)

pub bits_at-tail-requires-clause-inside : goal.bits_at-tail-requires-clause-inside
bits_at-tail-requires-clause-inside c some = omega (arith, within_bytes c.args.self.now (2 * c.args.zeros + 1) (omega arith) (omega arith))
