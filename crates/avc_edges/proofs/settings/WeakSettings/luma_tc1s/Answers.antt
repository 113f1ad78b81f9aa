use Rattle.avc_edges.proofs.EdgesOnPlane.{ℕ, ◌/◌, ◌<◌, arith, sym, subst, ap, ◌∙◌, tc1_of}
use Rattle.avc_edges.proofs.settings.WeakSettings.luma_tc1s.Goals as goal

pub tc1s-requires : goal.tc1s-requires
tc1s-requires c k low = subst (λ (n : ℕ). n < 4) (sym (c.spread.ensures k low)) (c.args.self.low (k / 4) (omega arith))

pub returns-clause-value : goal.returns-clause-value
returns-clause-value c k low = c.tc1s.ensures.value k low ∙ ap (λ (n : ℕ). tc1_of n c.args.self.limits.now.index_a) (c.spread.ensures k low)
