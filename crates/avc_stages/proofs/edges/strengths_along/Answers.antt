use Rattle.avc_stages.specs.Strengths.{IsStrength}
use Rattle.avc_stages.proofs.Quarters.{each_number}
use Rattle.avc_stages.proofs.edges.strengths_along.Goals as goal

pub returns : goal.returns
returns c =
    each_number (λ k s. IsStrength c.args.is_vertical c.args.n k c.args.p.now c.args.q.now s) _ _ _ _ c.strength_in.ensures c.strength_in-2.ensures c.strength_in-3.ensures c.strength_in-4.ensures
