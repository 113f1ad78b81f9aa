use Rattle.avc_poc.proofs.OrderCounts.{◌≡◌, ◌+◌, ◌-◌, ◌<◌, ◌==◌, false, ◌/◌, ◌%◌, ◌+ℤ◌, ◌*ℤ◌, ℤ, pos, length, take, ap, ◌∙◌, sym, arith, to_z, of_z}
use Rattle.avc_poc.proofs.OrderCounts.{w64, w128, ints, nat_tests, sum_ℤ, sum_whole, expected_is}
use Rattle.avc_poc.proofs.cycle.expected_order_count.Goals as goal

pub returns-clause-value : goal.returns-clause-value
returns-clause-value c =
    let abs = c.args.abs in
    let cycle = c.args.cycle.now in
    let quotient = (c.args.abs - 1) / length c.args.cycle.now in
    let begun = (c.args.abs - 1) % length c.args.cycle.now + 1 in
    let some : (length c.args.cycle.now == 0) ≡ false = sym c.is_empty.ensures ∙ c.if-is_empty.false in
    let positive : 0 < length c.args.cycle.now = grind (arith, nat_tests) in
    let whole : c.sum-first.result +ℤ c.sum.result ≡ sum_ℤ cycle = sum_whole cycle begun _ _ (omega arith) c.sum-first.ensures.value c.sum.ensures.value in
    let cast : to_z w128 (of_z w128 c.cycles.result) ≡ c.cycles.result = omega (arith, ints, c.cycles.ensures.small) in
    let first : to_z w64 (of_z w64 c.sum-first.result) ≡ sum_ℤ (take begun cycle) = omega (arith, ints, c.sum-first.ensures.small) ∙ c.sum-first.ensures.value in
    let all : to_z w64 (of_z w64 (to_z w64 (of_z w64 c.sum-first.result) +ℤ to_z w64 (of_z w64 c.sum.result))) ≡ sum_ℤ cycle = omega (arith, ints, c.sum-first.ensures.small, c.sum.ensures.small) ∙ whole in
    cast ∙ c.cycles.ensures.value
    ∙ ap (λ (w : ℤ). pos quotient *ℤ w +ℤ to_z w64 (of_z w64 c.sum-first.result)) all
    ∙ ap (λ (f : ℤ). pos quotient *ℤ sum_ℤ cycle +ℤ f) first
    ∙ sym (expected_is abs cycle c.if-abs-eq0.false some)
