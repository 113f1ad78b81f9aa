use Rattle.avc_deblock.proofs.FilteredPictures.{arith, nat_tests, ◌∙◌, true, chroma_qp_of, chroma_same, edge_none, edge_width, edge_height}
use Rattle.avc_deblock.proofs.vertical_edges.chroma_between.Goals as goal

pub returns-then-are_zero-clause-cb : goal.returns-then-are_zero-clause-cb
returns-then-are_zero-clause-cb g c = grind (arith, nat_tests, edge_none, c.requires.settings.value)

pub returns-clause-cb : goal.returns-clause-cb
returns-clause-cb g c =
    let qp = chroma_qp_of c.args.at.place.chroma_qp_index_offset c.args.p.now c.args.q.now in
    c.chroma_of.ensures.cb qp c.requires.settings.limits ∙ chroma_same c.args.at.place.column c.args.at.place.row c.args.at.n _ _ qp c.requires.settings.value true c.args.cb.now

pub returns-then-are_zero-clause-cr : goal.returns-then-are_zero-clause-cr
returns-then-are_zero-clause-cr g c = grind (arith, nat_tests, edge_none, c.requires.settings.value)

pub returns-clause-cr : goal.returns-clause-cr
returns-clause-cr g c =
    let qp = chroma_qp_of c.args.at.place.chroma_qp_index_offset c.args.p.now c.args.q.now in
    c.chroma_of.ensures.cr qp c.requires.settings.limits ∙ chroma_same c.args.at.place.column c.args.at.place.row c.args.at.n _ _ qp c.requires.settings.value true c.args.cr.now

pub returns-clause-cb_width : goal.returns-clause-cb_width
returns-clause-cb_width g c = grind (arith, edge_width, returns-clause-cb g c)

pub returns-clause-cb_height : goal.returns-clause-cb_height
returns-clause-cb_height g c = grind (arith, edge_height, returns-clause-cb g c)

pub returns-clause-cr_width : goal.returns-clause-cr_width
returns-clause-cr_width g c = grind (arith, edge_width, returns-clause-cr g c)

pub returns-clause-cr_height : goal.returns-clause-cr_height
returns-clause-cr_height g c = grind (arith, edge_height, returns-clause-cr g c)
