use Rattle.avc_bits.proofs.Reading.{arith, ◌/◌, ◌%◌, ◌∙◌, few_from}
use Rattle.avc_bits.proofs.bytes.bits_at.Goals as goal

pub returns-then-first-bytes-clause-value : goal.returns-then-first-bytes-clause-value
returns-then-first-bytes-clause-value c =
    let p = c.args.position in
    c.field_of_eight.ensures.value ∙ few_from c.args.bytes.now (p / 8) (p % 8) p c.args.count 8 c.eight_bytes.result (omega arith) (omega arith) (omega arith) c.eight_bytes.ensures
