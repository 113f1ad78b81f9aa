use Rattle.std.proofs.Common.{◌≡◌}
use Rattle.avc_annexb.specs.SplitterState.{units_waiting}
use Rattle.avc_console.specs.Reading.{max_unit}
use Rattle.avc_replay.specs.Replaying.{IsFedTaken}
use Rattle.avc_replay.proofs.feeding.feed_before.Given as goal

abbrev pub invariant-loop-unit : goal.invariant-loop-unit
invariant-loop-unit l = record {
  fed : IsFedTaken l.splitter l.decoder;
  bytes : l.splitter.bytes ≡ l.initial.splitter.bytes;
  ended : l.splitter.ended ≡ l.initial.splitter.ended;
}

abbrev pub decreases-loop-unit : goal.decreases-loop-unit
decreases-loop-unit l = units_waiting max_unit l.splitter
