use Rattle.avc_decoder_core.proofs.Sequences.{◌≡◌, ◌∙◌, ap₂, Err, to_z, of_z, w32, arith, rules, int_min, pasts, counted_next, not_counted}
use Rattle.avc_decoder_core.proofs.opening.Opening.of_next.Goals as goal

pub returns-in_err-top : goal.returns-in_err-top
returns-in_err-top c history e =
    let told : c.from_residual.result ≡ Err c.in_err-top.field-0.0 = first_of (search rules, grind arith) in
    told ∙ not_counted c.args.sps.now c.args.header.now c.args.missing history c.in_err-top.field-0.0 (c.in_err-top.ensures.counts (pasts history) e)

pub returns : goal.returns
returns c history e =
    let back : to_z w32 (of_z w32 c.min.result) ≡ c.min.result = search rules in
    let top : to_z w32 (of_z w32 c.in_ok-top.top) ≡ c.in_ok-top.top = search rules in
    let bottom : to_z w32 (of_z w32 c.in_ok-top.bottom) ≡ c.in_ok-top.bottom = search rules in
    counted_next c.args.sps.now c.args.header.now c.args.missing history c.in_ok-top.top c.in_ok-top.bottom _ c.next.new.self
    (back ∙ c.min.ensures.value ∙ ap₂ int_min top bottom)
    (c.in_ok-top.ensures.counts (pasts history) e)
    (c.in_ok-top.ensures.after (pasts history) e)
