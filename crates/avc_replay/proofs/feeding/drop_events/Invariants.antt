use Rattle.avc_replay.specs.Replaying.{IsFedMore}
use Rattle.std.proofs.Common.{[]}
use Rattle.avc_replay.proofs.feeding.drop_events.Given as goal

abbrev pub invariant-events : goal.invariant-events
invariant-events l = IsFedMore l.initial.decoder [] l.decoder
