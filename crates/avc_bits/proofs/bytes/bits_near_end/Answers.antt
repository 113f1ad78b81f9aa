use Rattle.avc_bits.proofs.Reading.{◌≡◌, ◌+◌, ◌-◌, ◌*◌, ◌/◌, ◌%◌, ◌^◌, ◌≤◌, length, take, drop, ap, sym, arith, ◌∙◌, one_shl, byte_bits, number_of, few_from, part_bits}
use Rattle.avc_bits.proofs.bytes.bits_near_end.Goals as goal

pub returns-clause-value : goal.returns-clause-value
returns-clause-value c =
    let bytes = c.args.bytes.now in
    let first = c.args.position / 8 in
    let passed = c.args.position % 8 in
    let held = c.div_ceil-held.result in
    let value = c.number_of_few-value in
    let inside : first + held ≤ length bytes = omega (arith, c.div_ceil-held.ensures) in
    let count : first + held - first ≡ held = omega arith in
    let whole = value.ensures.value ∙ ap (λ n. number_of (byte_bits (take n (drop first bytes)))) count ∙ ap number_of (sym (part_bits bytes first held inside)) in
    ap (λ m. value.result / 2 ^ (8 * held - passed - c.args.count) % m) (one_shl c.args.count 64 (omega arith))
    ∙ few_from bytes first passed c.args.position c.args.count held value.result (omega arith) (omega (arith, c.div_ceil-held.ensures)) inside whole
