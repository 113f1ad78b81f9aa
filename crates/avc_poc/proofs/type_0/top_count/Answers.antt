use Rattle.avc_poc.proofs.OrderCounts.{◌≡◌, ◌+ℤ◌, ℤ, ap, ◌∙◌, arith, to_z, of_z, w64, ints, lsb_of, max_lsb, msb_of, msb_told}
use Rattle.avc_poc.proofs.type_0.top_count.Goals as goal

pub returns-clause-value : goal.returns-clause-value
returns-clause-value c =
    let p = c.args.previous in
    let lsb = lsb_of c.args.header.now.order in
    let max = max_lsb c.args.sps.now.order_count in
    let told : c.msb_of.result ≡ msb_of max p lsb = msb_told _ _ _ _ _ _ c.msb_of.ensures.value c.max_lsb.ensures.small c.coded_lsb-lsb.ensures.small c.max_lsb.ensures.value c.coded_lsb-lsb.ensures.value in
    let cast : to_z w64 (of_z w64 (to_z w64 (of_z w64 c.msb_of.result) +ℤ to_z w64 (of_z w64 c.coded_lsb-lsb.result))) ≡ c.msb_of.result +ℤ c.coded_lsb-lsb.result = omega (arith, ints, c.msb_of.ensures.small, c.coded_lsb-lsb.ensures.small) in
    cast ∙ ap (λ (z : ℤ). z +ℤ c.coded_lsb-lsb.result) told ∙ ap (λ (z : ℤ). msb_of max p lsb +ℤ z) c.coded_lsb-lsb.ensures.value
