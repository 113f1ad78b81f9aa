use Rattle.avc_deblock.proofs.FilteredPictures.{arith, low_inside}
use Rattle.avc_deblock.proofs.inner_edges.InnerEdges.strengths_at.Goals as goal

pub returns-clause-low : goal.returns-clause-low
returns-clause-low c k low =
    let is = c.at.ensures k low in
    let told = c.args.self.told c.args.is_vertical c.args.n k c.requires.some c.requires.edge low in
    let below = low_inside c.args.self.q.now c.args.is_vertical c.args.n k c.requires.some in
    omega (arith, is, told, below)
