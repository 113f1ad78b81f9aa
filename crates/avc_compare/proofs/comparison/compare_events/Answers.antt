use Rattle.avc_compare.proofs.Comparisons.{arith, subst, sym, Ok, ComparesEvent, FindsAll, Stand, TakesNext, at_end, begins, found, is_none, lent_then, not_compared, not_ended, none_read, not_taken, one_more, stand, stays_told, still_lent, told_then, too_many}
use Rattle.avc_compare.proofs.comparison.compare_events.Goals as goal

pub events-init : goal.events-init
events-init g c = record {
  comparing = begins c.args.setting.how _ _ _ c.sharing-decoder.result c.in_ok-ahead.ahead (g.T.Reporter.reported c.args.reporting.now.report.now).report c.sharing-decoder.ensures c.in_ok-ahead.ensures.ok c.requires;
  told = stays_told (g.T.Reporter.reported c.args.reporting.now.report.now) _;
  lent = still_lent c.args.reporting.now;
}

pub returns-in_err-event-clause-compares : goal.returns-in_err-event-clause-compares
returns-in_err-event-clause-compares g c =
    not_taken c.args.setting.how c.events._event _ _ _ _ _ _ _ c.events.stream.decoder c.events.stream.ahead (g.T.Reporter.reported c.events.reporting.report.now).report c.in_err-event.field-0.0
    c.from_residual-in_err-event.result c.from_residual-in_err-event.ensures.1 c.in_err-event.ensures.err c.events.invariant.comparing

pub returns-in_err-ended-in-Some-clause-compares :
    goal.returns-in_err-ended-in-Some-clause-compares
returns-in_err-ended-in-Some-clause-compares g c =
    not_compared c.events_only_grow.ensures c.args.setting.how c.events._event _ _ _ _ _ _ _ _ _ c.events.stream.decoder c.next_of.new.decoder c.events.stream.ahead c.next_of.new.ahead
    (g.T.Reporter.reported c.events.reporting.report.now).report (g.T.Reporter.reported c.compare_event.new.reporting.report.now).report c.in-Some.event c.in_err-ended-in-Some.field-0.0
    c.from_residual-in_err-ended-in-Some.result c.from_residual-in_err-ended-in-Some.ensures.1
    (subst (λ e. TakesNext (g.R.Read.remaining c.events.reader) (g.R.Read.remaining c.next_of.new.reader) c.events.stream.decoder c.next_of.new.decoder c.events.stream.ahead c.next_of.new.ahead e) c.in-Some.is c.in_ok-event.ensures.ok) c.in_err-ended-in-Some.ensures.compares c.events.invariant.comparing

pub returns-in_err-ended-in-Some-clause-told : goal.returns-in_err-ended-in-Some-clause-told
returns-in_err-ended-in-Some-clause-told g c =
    told_then _ (g.T.Reporter.reported c.events.reporting.report.now) (g.T.Reporter.reported c.compare_event.new.reporting.report.now) _ _ _ c.events.invariant.told c.compare_event.ensures.told

pub returns-in-Some-ended-clause-compares : goal.returns-in-Some-ended-clause-compares
returns-in-Some-ended-clause-compares g c =
    let at : Stand =
    stand (g.R.Read.remaining c.next_of.new.reader) (g.O.Read.remaining c.compare_event.new.other) (g.W.Write.contents c.compare_event.new.writer) c.next_of.new.decoder c.next_of.new.ahead
    (g.T.Reporter.reported c.compare_event.new.reporting.report.now).report in
    let last : Stand =
    stand (g.R.Read.remaining c.find_behind.new.reader) (g.O.Read.remaining c.find_behind.new.other) (g.W.Write.contents c.find_behind.new.writer) c.find_behind.new.stream.decoder c.find_behind.new.stream.ahead
    (g.T.Reporter.reported c.find_behind.new.reporting.report.now).report in
    let all =
    found c.events_only_grow.ensures c.args.setting.how c.events._event _ _ _ _ _ _ at last c.events.stream.decoder c.events.stream.ahead (g.T.Reporter.reported c.events.reporting.report.now).report c.in-Some.event c.in-Some-ended.verdict
    c.find_behind.result.displaced
    (subst (λ e. TakesNext (g.R.Read.remaining c.events.reader) (g.R.Read.remaining c.next_of.new.reader) c.events.stream.decoder c.next_of.new.decoder c.events.stream.ahead c.next_of.new.ahead e) c.in-Some.is c.in_ok-event.ensures.ok)
    (subst (λ e. ComparesEvent c.args.setting.how c.in-Some.event (g.O.Read.remaining c.events.other) (g.O.Read.remaining c.compare_event.new.other) (g.W.Write.contents c.events.writer) (g.W.Write.contents c.compare_event.new.writer) (g.T.Reporter.reported c.events.reporting.report.now).report (g.T.Reporter.reported c.compare_event.new.reporting.report.now).report (Ok e)) c.in-Some-ended.is
    c.in_ok-ended-in-Some.ensures.compares) c.events.invariant.comparing c.find_behind.ensures.finds in
    subst (λ v. FindsAll c.args.setting.how (g.R.Read.remaining c.args.reader.now) last.left (g.O.Read.remaining c.args.other.now) last.rest (g.W.Write.contents c.args.writer.now) last.holds last.report v c.find_behind.result.displaced)
    (sym c.find_behind.ensures.same) all

pub returns-in-Some-ended-clause-told : goal.returns-in-Some-ended-clause-told
returns-in-Some-ended-clause-told g c =
    told_then _ (g.T.Reporter.reported c.events.reporting.report.now) (g.T.Reporter.reported c.find_behind.new.reporting.report.now) _ _ _ c.events.invariant.told
    (told_then _ (g.T.Reporter.reported c.compare_event.new.reporting.report.now) (g.T.Reporter.reported c.find_behind.new.reporting.report.now) _ _ _ c.compare_event.ensures.told c.find_behind.ensures.told)

pub returns-in_err-verdict-in-None-clause-compares : goal.returns-in_err-verdict-in-None-clause-compares
returns-in_err-verdict-in-None-clause-compares g c =
    not_ended c.args.setting.how c.events._event c.counts.result.pictures _ _ _ _ _ _ _ _ c.events.stream.decoder c.next_of.new.decoder c.events.stream.ahead c.next_of.new.ahead
    (g.T.Reporter.reported c.events.reporting.report.now).report c.in_err-verdict-in-None.field-0.0 c.from_residual-in_err-verdict-in-None.result c.from_residual-in_err-verdict-in-None.ensures.1
    (subst (λ e. TakesNext (g.R.Read.remaining c.events.reader) (g.R.Read.remaining c.next_of.new.reader) c.events.stream.decoder c.next_of.new.decoder c.events.stream.ahead c.next_of.new.ahead e) c.in-None.is c.in_ok-event.ensures.ok)
    c.in_err-verdict-in-None.ensures c.events.invariant.comparing

pub returns-in-None-clause-compares : goal.returns-in-None-clause-compares
returns-in-None-clause-compares g c =
    let all =
    at_end c.args.setting.how c.events._event c.counts.result.pictures _ _ _ _ _ _ _ _ c.events.stream.decoder c.next_of.new.decoder c.events.stream.ahead c.next_of.new.ahead
    (g.T.Reporter.reported c.events.reporting.report.now).report c.in_ok-verdict-in-None.verdict c.counts.ensures.pictures
    (subst (λ e. TakesNext (g.R.Read.remaining c.events.reader) (g.R.Read.remaining c.next_of.new.reader) c.events.stream.decoder c.next_of.new.decoder c.events.stream.ahead c.next_of.new.ahead e) c.in-None.is c.in_ok-event.ensures.ok)
    c.in_ok-verdict-in-None.ensures c.events.invariant.comparing in
    subst (λ d. FindsAll c.args.setting.how (g.R.Read.remaining c.args.reader.now) (g.R.Read.remaining c.next_of.new.reader) (g.O.Read.remaining c.args.other.now) (g.O.Read.remaining c.end.new.other)
    (g.W.Write.contents c.args.writer.now) (g.W.Write.contents c.events.writer) (g.T.Reporter.reported c.events.reporting.report.now).report c.in_ok-verdict-in-None.verdict (Ok d)) (sym c.new-in-None.ensures) all

pub events-preserved : goal.events-preserved
events-preserved g c =
    let none = is_none c.in_ok-ended-in-Some.ended c.in_default.not-Some in
    record {
      comparing = one_more c.args.setting.how c.events._event _ _ _ _ _ _ _ _ _ c.events.stream.decoder c.next_of.new.decoder c.events.stream.ahead c.next_of.new.ahead
          (g.T.Reporter.reported c.events.reporting.report.now).report (g.T.Reporter.reported c.compare_event.new.reporting.report.now).report c.in-Some.event
          (subst (λ e. TakesNext (g.R.Read.remaining c.events.reader) (g.R.Read.remaining c.next_of.new.reader) c.events.stream.decoder c.next_of.new.decoder c.events.stream.ahead c.next_of.new.ahead e) c.in-Some.is c.in_ok-event.ensures.ok)
          (subst (λ e. ComparesEvent c.args.setting.how c.in-Some.event (g.O.Read.remaining c.events.other) (g.O.Read.remaining c.compare_event.new.other) (g.W.Write.contents c.events.writer) (g.W.Write.contents c.compare_event.new.writer) (g.T.Reporter.reported c.events.reporting.report.now).report (g.T.Reporter.reported c.compare_event.new.reporting.report.now).report (Ok e)) none
          c.in_ok-ended-in-Some.ensures.compares) c.events.invariant.comparing;
      told = told_then _ (g.T.Reporter.reported c.events.reporting.report.now) (g.T.Reporter.reported c.compare_event.new.reporting.report.now) _ _ _ c.events.invariant.told c.compare_event.ensures.told;
      lent = lent_then c.args.reporting.now c.events.reporting c.compare_event.new.reporting c.events.invariant.lent c.compare_event.ensures.lent;
    }

pub returns-clause-compares : goal.returns-clause-compares
returns-clause-compares g c =
    too_many c.events_only_grow.ensures c.args.setting.how c.events._event _ _ _ _ _ _ c.events.stream.decoder c.events.stream.ahead (g.T.Reporter.reported c.events.reporting.report.now).report
    (omega (arith, c.events-test.false)) c.events.invariant.comparing

pub returns-in_err-ahead-clause-compares : goal.returns-in_err-ahead-clause-compares
returns-in_err-ahead-clause-compares g c =
    none_read c.args.setting.how _ _ _ (g.T.Reporter.reported c.args.reporting.now.report.now).report c.in_err-ahead.field-0.0 c.from_residual.result c.from_residual.ensures.1 c.in_err-ahead.ensures.err c.requires

pub returns-in_err-samples-clause-compares : goal.returns-in_err-samples-clause-compares
returns-in_err-samples-clause-compares g c =
    none_read c.args.setting.how _ _ _ (g.T.Reporter.reported c.args.reporting.now.report.now).report c.in_err-samples.field-0.0 c.from_residual-in_err-samples.result c.from_residual-in_err-samples.ensures.1 c.in_err-samples.ensures.err c.requires
