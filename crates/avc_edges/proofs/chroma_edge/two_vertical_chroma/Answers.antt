use Rattle.avc_edges.proofs.EdgesOnPlane.{arith, ap, ◌∙◌, slice_index, strength_along, chroma_setting, two_edges}
use Rattle.avc_edges.proofs.chroma_edge.two_vertical_chroma.Goals as goal

pub returns-clause-cb : goal.returns-clause-cb
returns-clause-cb g c qp next are is =
    let e = c.rectangle-of_cb.ensures in
    c.set_rectangle.ensures
    ∙ two_edges (chroma_setting (strength_along c.args.first.strengths.now) qp) (chroma_setting (strength_along c.args.second.strengths.now) next) c.args.left c.args.top 0 c.args.cb.now
    c.rectangle-of_cb.result c.samples_from-new_cb.result c.joined-block.result c.transposed-lines.result c.filter_chroma.new.t c.filter_chroma-2.new.t c.rows_of-after.result
    (omega arith) e.all c.requires.cb_columns c.requires.cb_rows e.samples
    (λ k low. ap (slice_index c.joined-block.result) (omega arith) ∙ c.joined-block.ensures.first k low) c.transposed-lines.ensures c.rows_of-after.ensures
    c.samples_from-new_cb.ensures c.filter_chroma.ensures.others c.filter_chroma-2.ensures.others (c.filter_chroma.ensures.lines qp are) (c.filter_chroma-2.ensures.lines next is)

pub returns-clause-cr : goal.returns-clause-cr
returns-clause-cr g c qp next are is =
    let e = c.rectangle-of_cr.ensures in
    c.set_rectangle-2.ensures
    ∙ two_edges (chroma_setting (strength_along c.args.first.strengths.now) qp) (chroma_setting (strength_along c.args.second.strengths.now) next) c.args.left c.args.top 1 c.args.cr.now
    c.rectangle-of_cr.result c.samples_from-new_cr.result c.joined-block.result c.transposed-lines.result c.filter_chroma.new.t c.filter_chroma-2.new.t c.rows_of-after.result
    (omega arith) e.all c.requires.cr_columns c.requires.cr_rows e.samples
    (λ k low. ap (slice_index c.joined-block.result) (omega arith) ∙ c.joined-block.ensures.second k low) c.transposed-lines.ensures c.rows_of-after.ensures
    c.samples_from-new_cr.ensures c.filter_chroma.ensures.others c.filter_chroma-2.ensures.others (c.filter_chroma.ensures.lines qp are) (c.filter_chroma-2.ensures.lines next is)
