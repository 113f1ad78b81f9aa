use Rattle.avc_decoder.proofs.Events.{◌∙◌, ap, QueueState, all_passed, one_passed}
use Rattle.avc_decoder.proofs.outgoing.Outgoing.put_all.Goals as goal

pub loop-event-preserved : goal.loop-event-preserved
loop-event-preserved g c =
    let i = c.loop-event.invariant in
    record {
      behind = one_passed i.behind c.in-Some.ensures.event c.in-Some.ensures.taken c.in_ok-put.ensures;
      events = ap (λ (q : QueueState). q.events) c.in-Some.ensures.taken ∙ i.events;
      taken = ap (λ (q : QueueState). q.taken) c.in_ok-put.ensures ∙ i.taken;
    }

pub returns-clause-events : goal.returns-clause-events
returns-clause-events g c =
    let i = c.loop-event.invariant in
    (all_passed c.args.self.now c.args.queue.now i.behind i.events i.taken c.in_default.ensures.event c.in_default.ensures.taken).0

pub returns-clause-queue : goal.returns-clause-queue
returns-clause-queue g c =
    let i = c.loop-event.invariant in
    (all_passed c.args.self.now c.args.queue.now i.behind i.events i.taken c.in_default.ensures.event c.in_default.ensures.taken).1
