use Rattle.avc_edges.proofs.EdgesOnPlane.{near_set, near_lines}
use Rattle.avc_edges.proofs.block.weak_chroma.Goals as goal

pub returns-clause-lines : goal.returns-clause-lines
returns-clause-lines c p3 p2 q2 q3 s i low w =
    near_lines s c.args.rows.from i _ _ _ _ _ _ _ _ _ low c.samples_from-p1.ensures c.samples_from-p0.ensures c.samples_from-q0.ensures c.samples_from-q1.ensures
    c.set_samples.ensures c.set_samples-2.ensures p3 p2 q2 q3 (c.weak_chroma_lines.ensures p3 p2 q2 q3 s i low w)

pub returns-clause-others : goal.returns-clause-others
returns-clause-others c = near_set c.args.rows.from _ _ _ _ _ c.set_samples.ensures c.set_samples-2.ensures
