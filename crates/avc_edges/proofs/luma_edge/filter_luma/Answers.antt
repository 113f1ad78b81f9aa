use Rattle.avc_edges.proofs.EdgesOnPlane.{arith, fits_weak, fits_strong}
use Rattle.avc_edges.proofs.luma_edge.filter_luma.Goals as goal

pub returns-in-Four : goal.returns-in-Four
returns-in-Four g c qp are = grind (arith, fits_strong)

pub returns-in-BelowFour : goal.returns-in-BelowFour
returns-in-BelowFour g c qp are = grind (arith, fits_weak)
