use Rattle.std.proofs.Common.{ap}
use Rattle.avc_difference.specs.Differences.{differs_at}
use Rattle.avc_difference.specs.Origin.{address_at}
use Rattle.avc_difference.specs.declared.place.Place.{Place}
use Rattle.avc_difference.proofs.Origins.{least_none, least_with}
use Rattle.avc_difference.proofs.origin.first_differing.Goals as goal

pub samples-init : goal.samples-init
samples-init c = least_none (differs_at c.args.most c.args.ours.now c.args.theirs.now) (address_at c.args.shape)

pub samples-preserved : goal.samples-preserved
samples-preserved c =
    least_with c.samples.place (c.place_of-stands.result).address c.differs-is_there.result (differs_at c.args.most c.args.ours.now c.args.theirs.now) (address_at c.args.shape)
    c.samples.least c.lesser-least.result c.samples.invariant c.differs-is_there.ensures (ap (λ (p : Place). p.address) c.place_of-stands.ensures) c.lesser-least.ensures
