use Rattle.avc_edges.proofs.EdgesOnPlane.{arith, ◌∙◌, slice_index}
use Rattle.avc_edges.proofs.settings.WeakSettings.tc1s.Goals as goal

pub returns-clause-value : goal.returns-clause-value
returns-clause-value c k low = c.looked_up.ensures k low ∙ c.args.self.spread.tc1 (slice_index c.args.strengths.now k) (c.requires k low)

pub returns-clause-small : goal.returns-clause-small
returns-clause-small c k low = grind (arith)
