use Rattle.avc_poc.proofs.OrderCounts.{◌≡◌, true, false, ap, ◌∙◌, sym, Ok, Err, if◌then◌else◌, rules, w32, SFits, to_z-of_z, PocRange, has_operation_5}
use Rattle.avc_poc.proofs.OrderCounts.{both_in_32_bits, lowered_by_operation_5, counts_of, pair, both_are, ok_is, in_range_lowered, in_range_kept, err_is, range_refused}
use Rattle.avc_poc.proofs.range.in_range.Goals as goal

pub returns-then-has_operation_5 : goal.returns-then-has_operation_5
returns-then-has_operation_5 c =
    let five : has_operation_5 c.args.header.now ≡ true = sym c.has_operation_5.ensures ∙ c.if-has_operation_5.true in
    let ok = ok_is (both_in_32_bits (counts_of c.args.counts)) c.args.counts (c.in_ok-top.top, c.in_ok-top.bottom) c.in_ok-top.ensures in
    let top_fits : SFits w32 c.in_ok-top.top = search rules in
    let bottom_fits : SFits w32 c.in_ok-top.bottom = search rules in
    let less : c.lowered_by_operation_5.result ≡ pair (lowered_by_operation_5 (counts_of c.args.counts)) = c.lowered_by_operation_5.ensures ∙ ap (λ p. pair (lowered_by_operation_5 (counts_of p))) (both_are _ _ _ _ (to_z-of_z w32 _ top_fits) (to_z-of_z w32 _ bottom_fits) ∙ ok.1) in
    c.both-then-has_operation_5.ensures
    ∙ ap (λ p. if both_in_32_bits (counts_of p) then Ok p else Err PocRange) less
    ∙ in_range_lowered c.args.header.now (counts_of c.args.counts) five ok.0

pub returns-else-has_operation_5 : goal.returns-else-has_operation_5
returns-else-has_operation_5 c =
    let five : has_operation_5 c.args.header.now ≡ false = sym c.has_operation_5.ensures ∙ c.if-has_operation_5.false in
    let ok = ok_is (both_in_32_bits (counts_of c.args.counts)) c.args.counts (c.in_ok-top.top, c.in_ok-top.bottom) c.in_ok-top.ensures in
    let top_fits : SFits w32 c.in_ok-top.top = search rules in
    let bottom_fits : SFits w32 c.in_ok-top.bottom = search rules in
    ap (λ p. Ok p) (both_are _ _ _ _ (to_z-of_z w32 _ top_fits) (to_z-of_z w32 _ bottom_fits) ∙ ok.1)
    ∙ in_range_kept c.args.header.now (counts_of c.args.counts) five ok.0

pub returns-in_err-top : goal.returns-in_err-top
returns-in_err-top c =
    err_is c.from_residual.result c.in_err-top.field-0.0 c.from_residual.ensures.1 ∙ range_refused c.args.header.now c.args.counts _ c.in_err-top.ensures
