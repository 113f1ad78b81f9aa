use Rattle.avc_make.proofs.Slices.{ap, ◌∙◌, option_map, context_told}
use Rattle.avc_make.proofs.slice_context.context_beside.Goals as goal

pub returns : goal.returns
returns c = λ s before own told.
    context_told s before c.args.row.now c.args.first.now c.args.qp c.total_coeffs_in.result c.total_coeffs_in-2.result own told
    (c.total_coeffs_in.ensures ∙ ap (λ n. option_map (λ f. f.total_coeffs) n.a) c.around-around.ensures)
    (c.total_coeffs_in-2.ensures ∙ ap (λ n. option_map (λ f. f.total_coeffs) n.b) c.around-around.ensures)
