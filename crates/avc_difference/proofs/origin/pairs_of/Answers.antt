use Rattle.std.proofs.Common.{arith, ap, sym, ◌∙◌, ◌++◌, ◌∷◌, []}
use Rattle.std.specs.Prelude.{if◌then◌else◌, ◌==◌}
use Rattle.avc_difference.specs.Origin.{address_at, pair_at, pairs_below}
use Rattle.avc_difference.proofs.Origins.{pairs_more, pairs_none}
use Rattle.avc_difference.proofs.origin.pairs_of.Goals as goal

pub samples-init : goal.samples-init
samples-init c = c.new-pairs.ensures.items ∙ pairs_none c.args.shape c.args.ours.now c.args.theirs.now c.args.address

pub samples-preserved : goal.samples-preserved
samples-preserved c =
    c.in_ok-add_pair.ensures
    ∙ ap (λ l. l ++ (if address_at c.args.shape c.samples.place == c.args.address then pair_at c.args.shape c.args.ours.now c.args.theirs.now c.samples.place ∷ [] else [])) c.samples.invariant
    ∙ sym (pairs_more c.samples.place c.args.shape c.args.ours.now c.args.theirs.now c.args.address)

pub returns : goal.returns
returns c = c.samples.invariant ∙ ap (λ n. pairs_below n c.args.shape c.args.ours.now c.args.theirs.now c.args.address) (omega arith)
