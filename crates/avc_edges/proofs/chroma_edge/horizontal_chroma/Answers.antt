use Rattle.avc_edges.proofs.EdgesOnPlane.{arith, ap, refl, ◌∙◌, slice_index, strength_along, chroma_setting, horizontal_part}
use Rattle.avc_edges.proofs.chroma_edge.horizontal_chroma.Goals as goal

pub returns-clause-cb : goal.returns-clause-cb
returns-clause-cb g c qp are =
    let of_cb = c.rectangle-of_cb in
    c.set_rectangle.ensures
    ∙ horizontal_part (chroma_setting (strength_along c.args.settings.strengths.now) qp) c.args.left c.args.top 0 c.args.cb.now of_cb.result c.nearest-new_cb.result (omega arith)
    of_cb.ensures.all c.requires.cb_columns c.requires.cb_rows of_cb.ensures.samples c.beside-lines.result c.filter_chroma.new.t c.filter_chroma.ensures.others (c.filter_chroma.ensures.lines qp are) (λ i low. refl)
    (λ row column r_low c_low. ap (slice_index c.beside-lines.result) (omega arith) ∙ c.beside-lines.ensures.left row column r_low c_low) c.nearest-new_cb.ensures

pub returns-clause-cr : goal.returns-clause-cr
returns-clause-cr g c qp are =
    let of_cr = c.rectangle-of_cr in
    c.set_rectangle-2.ensures
    ∙ horizontal_part (chroma_setting (strength_along c.args.settings.strengths.now) qp) c.args.left c.args.top 1 c.args.cr.now of_cr.result c.nearest-new_cr.result (omega arith)
    of_cr.ensures.all c.requires.cr_columns c.requires.cr_rows of_cr.ensures.samples c.beside-lines.result c.filter_chroma.new.t c.filter_chroma.ensures.others (c.filter_chroma.ensures.lines qp are) (λ i low. refl)
    (λ row column r_low c_low. ap (slice_index c.beside-lines.result) (omega arith) ∙ c.beside-lines.ensures.right row column r_low c_low) c.nearest-new_cr.ensures
