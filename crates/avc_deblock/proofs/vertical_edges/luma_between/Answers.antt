use Rattle.avc_deblock.proofs.FilteredPictures.{◌∙◌, arith, nat_tests, true, luma_qp_of, edge_none, edge_width, edge_height, luma_same}
use Rattle.avc_deblock.proofs.vertical_edges.luma_between.Goals as goal

pub returns-then-are_zero-clause-lines : goal.returns-then-are_zero-clause-lines
returns-then-are_zero-clause-lines g c = grind (arith, nat_tests, edge_none, c.requires.settings.value)

pub returns-clause-lines : goal.returns-clause-lines
returns-clause-lines g c =
    let qp = luma_qp_of c.args.p.now c.args.q.now in
    c.luma_of.ensures qp c.requires.settings.limits
    ∙ luma_same c.args.at.place.column c.args.at.place.row c.args.at.n _ _ qp c.requires.settings.value true c.args.luma.now

pub returns-clause-width : goal.returns-clause-width
returns-clause-width g c = grind (arith, edge_width, returns-clause-lines g c)

pub returns-clause-height : goal.returns-clause-height
returns-clause-height g c = grind (arith, edge_height, returns-clause-lines g c)
