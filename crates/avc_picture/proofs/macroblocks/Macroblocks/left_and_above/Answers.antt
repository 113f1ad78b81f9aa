use Rattle.avc_picture.proofs.Slices.{option_map, ◌∙◌, ap, Around, left_is, up_is}
use Rattle.avc_picture.proofs.macroblocks.Macroblocks.left_and_above.Goals as goal

pub returns-clause-left : goal.returns-clause-left
returns-clause-left g c = rw (← c.self.view_is) (λ coded names s holds width number.
    c.total_coeffs_of.ensures ∙ ap (λ (n : Around). option_map (λ f. f.total_coeffs) n.a) c.around-around.ensures ∙ left_is holds c.self.invariant.kept s width c.args.slice number)

pub returns-clause-up : goal.returns-clause-up
returns-clause-up g c = rw (← c.self.view_is) (λ coded names s holds width number.
    c.total_coeffs_of-2.ensures ∙ ap (λ (n : Around). option_map (λ f. f.total_coeffs) n.b) c.around-around.ensures ∙ up_is holds c.self.invariant.kept s width c.args.slice number)
