use Rattle.avc_run.proofs.Running.{sym, ap, ◌∙◌, after_take, by_fault, handled, is_none, lent_then, one_more, smaller, stopped, stopped_in, told_then}
use Rattle.avc_run.proofs.decoding.drain.Goals as goal

pub returns-in_err-event-clause-err : goal.returns-in_err-event-clause-err
returns-in_err-event-clause-err g c =
    let fault = c.in_err-event.field-0.0 in
    by_fault c.from_residual.result fault _ c.from_residual.ensures.1
    (stopped (g.F.PictureFormat.format c.args.format.now) fault _ c.events.decoder _ (g.T.Reporter.reported c.events.reporting.report.now).report _ _ c.in_err-event.ensures.err c.events.invariant.draining)

pub events-smaller : goal.events-smaller
events-smaller g c =
    smaller c.events.decoder c.next_event.new.decoder c.in-Some.event (sym c.in-Some.is ∙ c.in_ok-event.ensures.event)
    (c.in_ok-event.ensures.taken ∙ ap (λ o. after_take o c.events.decoder) c.in-Some.is)

pub events-preserved : goal.events-preserved
events-preserved g c = record {
  draining = one_more (g.F.PictureFormat.format c.args.format.now) _ c.events.decoder c.next_event.new.decoder _ (g.T.Reporter.reported c.events.reporting.report.now).report
      (g.T.Reporter.reported c.handle.new.reporting.report.now).report _ _ _ c.in-Some.event
      (sym c.in-Some.is ∙ c.in_ok-event.ensures.event) (c.in_ok-event.ensures.taken ∙ ap (λ o. after_take o c.events.decoder) c.in-Some.is)
      c.in_ok-handle.ensures.report c.in_ok-handle.ensures.written c.events.invariant.draining;
  told = told_then _ (g.T.Reporter.reported c.events.reporting.report.now) (g.T.Reporter.reported c.handle.new.reporting.report.now) _ _ _ c.events.invariant.told c.handle.ensures.told;
  lent = lent_then c.args.reporting.now c.events.reporting c.handle.new.reporting c.events.invariant.lent c.handle.ensures.lent;
}

pub returns-in_err-handle-clause-err : goal.returns-in_err-handle-clause-err
returns-in_err-handle-clause-err g c =
    let fault = c.in_err-handle.field-0.0 in
    by_fault c.from_residual-in_err-handle.result fault _ c.from_residual-in_err-handle.ensures.1
    (stopped_in (g.F.PictureFormat.format c.args.format.now) fault _ c.events.decoder _ (g.T.Reporter.reported c.events.reporting.report.now).report (g.T.Reporter.reported c.handle.new.reporting.report.now).report _ _ _
    c.in-Some.event (sym c.in-Some.is ∙ c.in_ok-event.ensures.event) c.in_err-handle.ensures.err c.events.invariant.draining)

pub returns-in_err-handle-clause-told : goal.returns-in_err-handle-clause-told
returns-in_err-handle-clause-told g c =
    told_then _ (g.T.Reporter.reported c.events.reporting.report.now) (g.T.Reporter.reported c.handle.new.reporting.report.now) _ _ _ c.events.invariant.told c.handle.ensures.told

pub returns-clause-ok : goal.returns-clause-ok
returns-clause-ok g c =
    let none = is_none c.in_ok-event.field-0 c.in_default.not-Some in
    handled (g.F.PictureFormat.format c.args.format.now) _ c.events.decoder c.next_event.new.decoder _ (g.T.Reporter.reported c.events.reporting.report.now).report _ _ (sym none ∙ c.in_ok-event.ensures.event)
    (c.in_ok-event.ensures.taken ∙ ap (λ o. after_take o c.events.decoder) none) c.events.invariant.draining
