use Rattle.std.proofs.Common.{◌≡◌, false, sym, ◌∙◌, below_more}
use Rattle.avc_difference.specs.Differences.{differs_at}
use Rattle.avc_difference.proofs.difference.first_difference.Goals as goal

pub returns-then-differs : goal.returns-then-differs
returns-then-differs c = record { inside = c.samples-test.true; here = sym c.differs.ensures ∙ c.if-differs.true; before = c.samples.invariant }

pub samples-preserved : goal.samples-preserved
samples-preserved c = below_more (λ k. differs_at c.args.most c.args.ours.now c.args.theirs.now k ≡ false) c.samples.place c.samples.invariant (sym c.differs.ensures ∙ c.if-differs.false)
