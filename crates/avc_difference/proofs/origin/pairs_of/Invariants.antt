use Rattle.std.proofs.Common.{◌≡◌}
use Rattle.avc_difference.specs.Origin.{pairs_below}
use Rattle.avc_difference.proofs.origin.pairs_of.Given as goal

abbrev pub invariant-samples : goal.invariant-samples
invariant-samples l = l.pairs.items ≡ pairs_below l.place l.shape l.ours l.theirs l.address
