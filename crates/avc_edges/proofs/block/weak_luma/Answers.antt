use Rattle.avc_edges.proofs.EdgesOnPlane.{weak_down}
use Rattle.avc_edges.proofs.block.weak_luma.Goals as goal

pub returns : goal.returns
returns c s i low w =
    weak_down s i _ _ _ _ _ _ _ _ _ _ _ _ _ _ _ low
    c.samples_from-p2.ensures c.samples_from-p1.ensures c.samples_from-p0.ensures c.samples_from-q0.ensures c.samples_from-q1.ensures c.samples_from-q2.ensures
    c.set_samples.ensures c.set_samples-2.ensures c.set_samples-3.ensures c.set_samples-4.ensures
    (λ p3 q3. c.weak_lines.ensures p3 q3 s i low w)
