use Rattle.avc_bits.proofs.Reading.{arith, ◌-◌, ◌<◌, get_or, w8, bit_at-trailing_zeros, stops, stops_never}
use Rattle.avc_bits.proofs.bytes.stop_bit.Goals.{then-loop-len-test+else-bytes-len-eq0, else-loop-len-test}
use Rattle.avc_bits.proofs.bytes.stop_bit.Goals as goal

pub returns-then-len-eq0-clause-stop : goal.returns-then-len-eq0-clause-stop
returns-then-len-eq0-clause-stop c = stops_never c.args.bytes.now (λ k. c.loop-len.invariant.zeros k (omega arith))

pub returns-clause-stop : goal.returns-clause-stop
returns-clause-stop c =
    let last = c.loop-len.len - 1 in
    let byte = get_or c.args.bytes.now (c.loop-len.len - 1) 0 in
    let some : 0 < byte = elim c.loop-len-test.branch [ then-loop-len-test+else-bytes-len-eq0 w ↦ omega arith | else-loop-len-test w ↦ omega arith ] in
    let fits : byte < 256 = omega (arith, c.type_inv.bytes (c.loop-len.len - 1)) in
    let low = bit_at-trailing_zeros w8 byte some fits in
    stops c.args.bytes.now last _ (omega arith) low.0 low.1 low.2 (λ k after. c.loop-len.invariant.zeros k (omega (arith, after)))
