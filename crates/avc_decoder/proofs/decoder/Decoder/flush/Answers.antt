use Rattle.avc_decoder.proofs.Events.{[], true, append-nil, subst, sym, EndsIn, kept_flushed, kept_refused, ok_so}
use Rattle.avc_decoder.proofs.decoder.Decoder.flush.Goals as goal

pub invariant_of-self : goal.invariant_of-self
invariant_of-self g c =
    let d = c.self.inside in
    kept_refused d.bytes.items [] d.ended true d.running c.stop_at_refusal.new.running c.self.invariant
    c.in_ok-check.ensures.going c.if-self.false
    (sym (append-nil d.bytes.items)) c.in_err-self-inside.ensures.stopped

pub invariant_of-self-2 : goal.invariant_of-self-2
invariant_of-self-2 g c =
    let d = c.self.inside in
    let f = c.in_ok-self-inside in
    let ended = ok_so (λ read. EndsIn g.row.MAX d.running read c.finish-finished.new.running) c.finish-finished.result
    c.stop_at_refusal.result f.field-0 c.finish-finished.ensures c.stop_at_refusal.ensures.answer f.was in
    kept_flushed d.running c.stop_at_refusal.new.running c.self.invariant c.if-self.false
    (subst (EndsIn g.row.MAX d.running f.field-0) (sym f.ensures.kept) ended)
