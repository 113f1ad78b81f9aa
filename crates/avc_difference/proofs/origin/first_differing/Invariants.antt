use Rattle.std.proofs.Common.{◌≡◌}
use Rattle.avc_difference.specs.Differences.{differs_at}
use Rattle.avc_difference.specs.Origin.{address_at, least_below}
use Rattle.avc_difference.proofs.origin.first_differing.Given as goal

abbrev pub invariant-samples : goal.invariant-samples
invariant-samples l = l.least ≡ least_below l.place (differs_at l.most l.ours l.theirs) (address_at l.shape)
