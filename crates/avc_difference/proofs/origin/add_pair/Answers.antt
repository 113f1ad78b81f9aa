use Rattle.avc_difference.proofs.Origins.{pair_elsewhere, pair_there}
use Rattle.avc_difference.proofs.origin.add_pair.Goals as goal

pub returns-in_ok-push : goal.returns-in_ok-push
returns-in_ok-push c =
    pair_there c.args.shape c.args.ours.now c.args.theirs.now c.args.place c.args.address c.place_of-stands.result c.args.pairs.now.items _ c.place_of-stands.ensures c.if-stands-address.true
    c.in_ok-push.ensures.items

pub returns-else-stands-address : goal.returns-else-stands-address
returns-else-stands-address c =
    pair_elsewhere c.args.shape c.args.ours.now c.args.theirs.now c.args.place c.args.address c.place_of-stands.result c.args.pairs.now.items c.place_of-stands.ensures c.if-stands-address.false
