use Rattle.avc_edges.proofs.kernels.one_weak_edge.Goals as goal

pub returns : goal.returns
returns g c setting fits = c.weak_edge.ensures.lines setting fits
