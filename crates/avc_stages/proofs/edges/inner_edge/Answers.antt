use Rattle.avc_stages.proofs.Inner.{inner}
use Rattle.avc_stages.proofs.edges.inner_edge.Goals as goal

pub returns : goal.returns
returns c = λ outer. inner c.args.is_vertical c.args.n outer c.args.info.now _ _ c.requires.first c.filters_between.ensures c.strengths_along.ensures
