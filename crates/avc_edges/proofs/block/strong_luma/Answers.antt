use Rattle.avc_edges.proofs.EdgesOnPlane.{strong_down}
use Rattle.avc_edges.proofs.block.strong_luma.Goals as goal

pub returns : goal.returns
returns c s i low w =
    strong_down s i _ _ _ _ _ _ _ _ _ _ _ _ _ _ _ _ _ _ _ _ _ low
    c.samples_from-p3.ensures c.samples_from-p2.ensures c.samples_from-p1.ensures c.samples_from-p0.ensures c.samples_from-q0.ensures c.samples_from-q1.ensures c.samples_from-q2.ensures c.samples_from-q3.ensures
    c.set_samples.ensures c.set_samples-2.ensures c.set_samples-3.ensures c.set_samples-4.ensures c.set_samples-5.ensures c.set_samples-6.ensures
    (c.strong_lines.ensures s i low w)
