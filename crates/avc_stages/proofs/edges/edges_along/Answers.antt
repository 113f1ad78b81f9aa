use Rattle.std.specs.Option.{option_copied}
use Rattle.avc_stages.specs.Strengths.{IsEdge, no_edge}
use Rattle.avc_stages.proofs.Quarters.{each}
use Rattle.avc_stages.proofs.edges.edges_along.Goals as goal

pub returns : goal.returns
returns c =
    let outer = option_copied c.args.outer in
    each (λ n e. IsEdge c.args.is_vertical n outer c.args.info.now e) no_edge _ _ _ _ c.outer_edge.ensures (c.inner_edge.ensures outer) (c.inner_edge-2.ensures outer) (c.inner_edge-3.ensures outer)
