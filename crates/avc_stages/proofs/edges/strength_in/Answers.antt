use Rattle.std.proofs.Common.{ap₂, ◌∙◌}
use Rattle.avc_deblock.specs.Edges.{strength_between}
use Rattle.avc_stages.proofs.edges.strength_in.Goals as goal

pub returns : goal.returns
returns c = λ coded motion names ap aq of_p of_q inside.
    c.strength.ensures coded motion names ap aq of_p of_q inside
    ∙ ap₂ (λ kp kq. strength_between coded motion ap kp aq kq) c.edge_block.ensures.value c.edge_block-2.ensures.value
