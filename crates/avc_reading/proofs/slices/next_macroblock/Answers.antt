use Rattle.avc_reading.proofs.Read.{◌∙◌, ap, sym, subst, option_map, Around, Follows, IsHandedOut, handed_out, left_is, up_is}
use Rattle.avc_reading.proofs.slices.next_macroblock.Goals as goal

pub returns-then-next_skipped : goal.returns-then-next_skipped
returns-then-next_skipped c = λ s before known stands follows. c.next_skipped.ensures.skipped c.if-next_skipped.true s before follows

pub returns : goal.returns
returns c = λ s before known stands follows.
    let same = c.next_skipped.ensures.other c.if-next_skipped.false in
    subst (λ u. IsHandedOut s before (handed_out c.next.result c.next.new.mb) u c.next.new.self) same
    (c.next.ensures s before (subst (Follows s before) (sym same) follows)
    (c.total_coeffs_in.ensures ∙ ap (λ (n : Around). option_map (λ f. f.total_coeffs) n.a) c.around-around.ensures ∙ left_is c.total_coeffs_are_found.ensures s before known c.args.number c.args.row.now stands)
    (c.total_coeffs_in-2.ensures ∙ ap (λ (n : Around). option_map (λ f. f.total_coeffs) n.b) c.around-around.ensures ∙ up_is c.total_coeffs_are_found.ensures s before known c.args.number c.args.row.now stands))
