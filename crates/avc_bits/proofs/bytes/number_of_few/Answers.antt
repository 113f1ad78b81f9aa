use Rattle.avc_bits.proofs.Reading.{refl, arith, take_all, few_below, next_byte}
use Rattle.avc_bits.proofs.bytes.number_of_few.Goals as goal

pub bytes-init : goal.bytes-init
bytes-init c = refl

pub overflow_mul-value : goal.overflow_mul-value
overflow_mul-value c = omega (arith, c.bytes.invariant, few_below c.args.bytes.now c.bytes.byte-index 48 (omega arith) (omega arith))

pub overflow_add-value : goal.overflow_add-value
overflow_add-value c = omega (arith, c.bytes.invariant, few_below c.args.bytes.now c.bytes.byte-index 48 (omega arith) (omega arith), c.from.ensures, c.type_inv.bytes c.bytes.byte-index)

pub bytes-preserved : goal.bytes-preserved
bytes-preserved c = grind (arith, next_byte, c.type_inv.bytes c.bytes.byte-index)

pub returns-clause-value : goal.returns-clause-value
returns-clause-value c = grind (arith, take_all)

pub returns-clause-bound : goal.returns-clause-bound
returns-clause-bound c = omega (arith, c.bytes.invariant, few_below c.args.bytes.now c.bytes.byte-index 56 (omega arith) (omega arith))
