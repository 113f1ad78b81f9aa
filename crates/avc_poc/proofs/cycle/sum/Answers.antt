use Rattle.avc_poc.proofs.OrderCounts.{◌≡◌, ◌+◌, pos, ◌+ℤ◌, ◌∙◌, get_or, drop, arith, rules, w32, SFits, ints, to_z-of_z, sum_ℤ, sum_more}
use Rattle.avc_poc.proofs.cycle.sum.Goals as goal

pub loop-offset-preserved : goal.loop-offset-preserved
loop-offset-preserved c =
    let i = c.loop-offset.offset-index in
    let xs = c.args.offsets.now in
    let in_32_bits : SFits w32 (get_or xs i (pos 0)) = search rules in
    let read : c.from-sum.result ≡ get_or xs i (pos 0) = c.from-sum.ensures ∙ to_z-of_z w32 _ in_32_bits in
    let more : sum_ℤ (drop i xs) ≡ get_or xs i (pos 0) +ℤ sum_ℤ (drop (i + 1) xs) = sum_more xs i (pos 0) (omega arith) in
    let before = c.loop-offset.invariant.so_far in
    record { so_far = omega (arith, ints); low = omega (arith, ints); high = omega (arith, ints) }
