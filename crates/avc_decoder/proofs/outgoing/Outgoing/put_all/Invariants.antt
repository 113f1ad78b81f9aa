use Rattle.avc_decoder.proofs.Events.{◌≡◌, ◌-◌, length, IsBehind}
use Rattle.avc_decoder.proofs.outgoing.Outgoing.put_all.Given as goal

abbrev pub invariant-loop-event : goal.invariant-loop-event
invariant-loop-event g l = record {
  behind : IsBehind l.self l.queue;
  events : l.queue.events ≡ l.initial.queue.events;
  taken : l.self.taken ≡ l.initial.self.taken;
}

abbrev pub decreases-loop-event : goal.decreases-loop-event
decreases-loop-event g l = length l.queue.events - l.queue.taken
