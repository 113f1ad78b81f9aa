use Rattle.avc_poc.proofs.OrderCounts.{◌+◌, ap, ◌∙◌, is_ok, counts_from, previous_for, OrderCountState, picture_offset}
use Rattle.avc_poc.proofs.poc.Poc.record.Goals as goal

pub previous_after-self-inside-requires-clause-counted : goal.previous_after-self-inside-requires-clause-counted
previous_after-self-inside-requires-clause-counted c =
    let sps = c.args.sps.now in
    let h = c.args.header.now in
    let number = picture_offset sps h c.args.self.now + h.frame_num in
    (number, ap (λ (s : OrderCountState). is_ok (counts_from sps h (previous_for h s.previous) number)) c.self.view_is ∙ c.requires.counted)
