use Rattle.avc_edges.proofs.EdgesOnPlane.{tc1_small}
use Rattle.avc_edges.proofs.thresholds.tc1.Goals as goal

pub returns-clause-small : goal.returns-clause-small
returns-clause-small c = tc1_small c.args.place
