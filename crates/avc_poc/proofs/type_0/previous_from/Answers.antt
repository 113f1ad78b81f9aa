use Rattle.avc_poc.proofs.OrderCounts.{◌≡◌, pos, ℤ, true, ap, ◌∙◌, sym, subst, has_operation_5, delta_bottom, counts_0, IsNear, msb_told}
use Rattle.avc_poc.proofs.OrderCounts.{lowered_told, previous_cast, msb_kept}
use Rattle.avc_poc.proofs.type_0.previous_from.Goals as goal

pub returns-then-has_operation_5-clause-value : goal.returns-then-has_operation_5-clause-value
returns-then-has_operation_5-clause-value c =
    let five : has_operation_5 c.args.header.now ≡ true = sym c.has_operation_5.ensures ∙ c.if-has_operation_5.true in
    let top = (counts_0 c.args.sps.now c.args.header.now c.args.previous).top in
    let lsb = lowered_told c.lowered_top.result c.delta_bottom.result (delta_bottom c.args.header.now.order) top c.delta_bottom.ensures.small c.lowered_top.ensures.small c.delta_bottom.ensures.value c.lowered_top.ensures.value in
    rw five (ap (λ (l : ℤ). record { msb = pos 0; lsb = l }) lsb)

pub returns-else-has_operation_5-clause-small : goal.returns-else-has_operation_5-clause-small
returns-else-has_operation_5-clause-small c =
    let told = msb_told _ _ _ _ _ _ c.msb_of-msb.ensures.value c.max_lsb.ensures.small c.coded_lsb-lsb.ensures.small c.max_lsb.ensures.value c.coded_lsb-lsb.ensures.value in
    let low = subst (IsNear 33) c.coded_lsb-lsb.ensures.value c.coded_lsb-lsb.ensures.small in
    previous_cast c.msb_of-msb.result c.coded_lsb-lsb.result
    (subst (IsNear 34) (sym told) (msb_kept c.args.sps.now c.args.header.now c.args.previous c.requires.counted.0 c.requires.previous low c.requires.counted.1))
    c.coded_lsb-lsb.ensures.small
