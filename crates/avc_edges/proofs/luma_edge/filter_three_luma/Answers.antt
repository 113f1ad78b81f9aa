use Rattle.avc_edges.proofs.EdgesOnPlane.{arith, fits_weak}
use Rattle.avc_edges.proofs.luma_edge.filter_three_luma.Goals as goal

pub returns : goal.returns
returns g c qp are = grind (arith, fits_weak)
