use Rattle.avc_edges.proofs.EdgesOnPlane.{arith, ap, ◌∙◌, slice_index, strength_along, chroma_setting, vertical_part}
use Rattle.avc_edges.proofs.chroma_edge.vertical_chroma.Goals as goal

pub returns-clause-cb : goal.returns-clause-cb
returns-clause-cb g c qp are =
    let of_cb = c.rectangle-of_cb in
    c.set_rectangle.ensures
    ∙ vertical_part (chroma_setting (strength_along c.args.settings.strengths.now) qp) c.args.left c.args.top 0 c.args.cb.now of_cb.result c.samples_from-new_cb.result (omega arith)
    of_cb.ensures.all c.requires.cb_columns c.requires.cb_rows of_cb.ensures.samples c.transposed-lines.result c.filter_chroma.new.t c.filter_chroma.ensures.others (c.filter_chroma.ensures.lines qp are)
    c.joined-block.result c.rows_of-after.result (λ k low. ap (slice_index c.joined-block.result) (omega arith) ∙ c.joined-block.ensures.first k low)
    c.transposed-lines.ensures c.rows_of-after.ensures c.samples_from-new_cb.ensures

pub returns-clause-cr : goal.returns-clause-cr
returns-clause-cr g c qp are =
    let of_cr = c.rectangle-of_cr in
    c.set_rectangle-2.ensures
    ∙ vertical_part (chroma_setting (strength_along c.args.settings.strengths.now) qp) c.args.left c.args.top 1 c.args.cr.now of_cr.result c.samples_from-new_cr.result (omega arith)
    of_cr.ensures.all c.requires.cr_columns c.requires.cr_rows of_cr.ensures.samples c.transposed-lines.result c.filter_chroma.new.t c.filter_chroma.ensures.others (c.filter_chroma.ensures.lines qp are)
    c.joined-block.result c.rows_of-after.result (λ k low. ap (slice_index c.joined-block.result) (omega arith) ∙ c.joined-block.ensures.second k low)
    c.transposed-lines.ensures c.rows_of-after.ensures c.samples_from-new_cr.ensures
