use Rattle.avc_decoder.proofs.Events.{arith, take_rest, length-drop, none_fed, works_on, fed_more}
use Rattle.avc_decoder.proofs.parts.Parts.feed.Goals as goal

pub loop-place-init : goal.loop-place-init
loop-place-init g c = record { now = none_fed c.args.self.now c.requires; within = omega arith }

pub feed_unit-requires : goal.feed_unit-requires
feed_unit-requires g c = (omega arith, works_on c.loop-place.invariant.now)

pub loop-place-preserved : goal.loop-place-preserved
loop-place-preserved g c =
    let piece = c.args.piece.now in
    let place = c.loop-place.place in
    let f = rw (take_rest piece place) at c.in_ok-fed.ensures in
    record {
      now = fed_more piece place c.in_ok-fed.fed.used c.loop-place.invariant.now f.feeds;
      within = omega (arith, length-drop place piece, f.used.within);
    }
