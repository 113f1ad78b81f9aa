use Rattle.avc_decoder.proofs.Events.{first_seen, seen_event}
use Rattle.avc_decoder.proofs.outgoing.Outgoing.take.Goals as goal

pub returns-clause-event : goal.returns-clause-event
returns-clause-event g c =
    let q = c.self.inside in
    rw (← c.self.view_is)
    (first_seen (seen_event g.P.PictureRows.picture) q.given.items q.waiting.items c.pop_front.new.self.items c.in_ok-event.event c.in_ok-event.ensures.items)
