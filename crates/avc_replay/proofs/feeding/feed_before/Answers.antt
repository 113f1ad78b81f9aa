use Rattle.std.proofs.Common.{◌∙◌}
use Rattle.avc_replay.proofs.Fed.{same_bytes, taken_fed}
use Rattle.avc_replay.proofs.feeding.feed_before.Goals as goal

pub loop-unit-preserved-in_ok-feed_written : goal.loop-unit-preserved-in_ok-feed_written
loop-unit-preserved-in_ok-feed_written c =
    let same = same_bytes c.loop-unit.splitter c.next_unit.new.self c.next_unit.result c.next_unit.ensures.taken in
    record {
      fed = taken_fed c.loop-unit.splitter c.next_unit.new.self c.in-Some.unit c.next_unit.result c.loop-unit.decoder c.feed_written.new.decoder c.loop-unit.invariant.fed c.next_unit.ensures.unit
          c.next_unit.ensures.taken c.in-Some.is c.in_ok-feed_written.ensures;
      bytes = same.0 ∙ c.loop-unit.invariant.bytes;
      ended = same.1 ∙ c.loop-unit.invariant.ended;
    }

pub loop-unit-preserved : goal.loop-unit-preserved
loop-unit-preserved c =
    let same = same_bytes c.loop-unit.splitter c.next_unit.new.self c.next_unit.result c.next_unit.ensures.taken in
    record {
      fed = taken_fed c.loop-unit.splitter c.next_unit.new.self c.in-Some.unit c.next_unit.result c.loop-unit.decoder c.feed_written.new.decoder c.loop-unit.invariant.fed c.next_unit.ensures.unit
          c.next_unit.ensures.taken c.in-Some.is c.in_ok-feed_written.ensures;
      bytes = same.0 ∙ c.loop-unit.invariant.bytes;
      ended = same.1 ∙ c.loop-unit.invariant.ended;
    }
