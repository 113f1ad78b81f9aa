use Rattle.avc_compare.proofs.Comparisons.{◌≡◌, ap, arith, length, refl, rules, subst, sym, true, false, ◌∙◌, Ok, LooksAtEvent, TakesNext, is_enough, lent_then, stand, stays_told, still_lent, told_then}
use Rattle.avc_compare.proofs.Further.{ends_enough, ends_lacking, ends_stream, further_begins, goes_on, no_digests, not_looked_at, not_read_on, too_many_looked}
use Rattle.avc_compare.proofs.looking.look_on.Goals as goal

pub returns-in_err-digests-clause-looks : goal.returns-in_err-digests-clause-looks
returns-in_err-digests-clause-looks g c =
    no_digests c.events_only_grow.ensures c.args.setting.how c.args.differing.now.our_digest c.args.differing.now.their_digest
    (stand (g.R.Read.remaining c.args.reader.now) (g.O.Read.remaining c.args.other.now) (g.W.Write.contents c.args.writer.now) c.args.stream.now.decoder c.args.stream.now.ahead (g.T.Reporter.reported c.args.reporting.now.report.now).report)
    c.in_err-digests.field-0.0 c.from_residual.result c.from_residual.ensures.1 c.in_err-digests.ensures.err

pub returns-in_err-samples-clause-looks : goal.returns-in_err-samples-clause-looks
returns-in_err-samples-clause-looks g c =
    no_digests c.events_only_grow.ensures c.args.setting.how c.args.differing.now.our_digest c.args.differing.now.their_digest
    (stand (g.R.Read.remaining c.args.reader.now) (g.O.Read.remaining c.args.other.now) (g.W.Write.contents c.args.writer.now) c.args.stream.now.decoder c.args.stream.now.ahead (g.T.Reporter.reported c.args.reporting.now.report.now).report)
    c.in_err-samples.field-0.0 c.from_residual-in_err-samples.result c.from_residual-in_err-samples.ensures.1 c.in_err-samples.ensures.err

pub events-init : goal.events-init
events-init g c = record {
  looking = further_begins c.args.setting.how c.args.differing.now.our_digest c.args.differing.now.their_digest _ c.in_ok-digests.digests c.in_ok-digests.ensures.ok;
  told = stays_told (g.T.Reporter.reported c.args.reporting.now.report.now) _;
  lent = still_lent c.args.reporting.now;
}

pub returns-then-is_enough-clause-looks : goal.returns-then-is_enough-clause-looks
returns-then-is_enough-clause-looks g c =
    let is : is_enough c.args.setting.how (length c.events.digests.ours) ≡ true = ap (λ l. is_enough c.args.setting.how (length l)) (sym c.ours.ensures) ∙ sym c.is_enough.ensures ∙ c.if-is_enough.true in
    ends_enough c.events_only_grow.ensures c.args.setting.how c.events._event c.args.differing.now.our_digest c.args.differing.now.their_digest
    (stand (g.R.Read.remaining c.args.reader.now) (g.O.Read.remaining c.args.other.now) (g.W.Write.contents c.args.writer.now) c.args.stream.now.decoder c.args.stream.now.ahead (g.T.Reporter.reported c.args.reporting.now.report.now).report)
    (stand (g.R.Read.remaining c.events.reader) (g.O.Read.remaining c.events.other) (g.W.Write.contents c.events.writer) c.events.stream.decoder c.events.stream.ahead (g.T.Reporter.reported c.events.reporting.report.now).report)
    c.events.digests c.events.invariant.looking is

pub returns-in_err-event-clause-looks : goal.returns-in_err-event-clause-looks
returns-in_err-event-clause-looks g c =
    not_read_on c.args.setting.how c.events._event c.args.differing.now.our_digest c.args.differing.now.their_digest
    (stand (g.R.Read.remaining c.args.reader.now) (g.O.Read.remaining c.args.other.now) (g.W.Write.contents c.args.writer.now) c.args.stream.now.decoder c.args.stream.now.ahead (g.T.Reporter.reported c.args.reporting.now.report.now).report)
    (stand (g.R.Read.remaining c.events.reader) (g.O.Read.remaining c.events.other) (g.W.Write.contents c.events.writer) c.events.stream.decoder c.events.stream.ahead (g.T.Reporter.reported c.events.reporting.report.now).report)
    (stand (g.R.Read.remaining c.next_of.new.reader) (g.O.Read.remaining c.events.other) (g.W.Write.contents c.events.writer) c.next_of.new.decoder c.next_of.new.ahead (g.T.Reporter.reported c.events.reporting.report.now).report)
    c.events.digests c.in_err-event.field-0.0 c.from_residual-in_err-event.result c.from_residual-in_err-event.ensures.1 c.events.invariant.looking c.in_err-event.ensures.err refl refl refl

pub returns-in_err-more-in-Some-clause-looks : goal.returns-in_err-more-in-Some-clause-looks
returns-in_err-more-in-Some-clause-looks g c =
    not_looked_at c.events_only_grow.ensures c.args.setting.how c.events._event c.args.differing.now.our_digest c.args.differing.now.their_digest
    (stand (g.R.Read.remaining c.args.reader.now) (g.O.Read.remaining c.args.other.now) (g.W.Write.contents c.args.writer.now) c.args.stream.now.decoder c.args.stream.now.ahead (g.T.Reporter.reported c.args.reporting.now.report.now).report)
    (stand (g.R.Read.remaining c.events.reader) (g.O.Read.remaining c.events.other) (g.W.Write.contents c.events.writer) c.events.stream.decoder c.events.stream.ahead (g.T.Reporter.reported c.events.reporting.report.now).report)
    (stand (g.R.Read.remaining c.next_of.new.reader) (g.O.Read.remaining c.look_at_event.new.other) (g.W.Write.contents c.look_at_event.new.writer) c.next_of.new.decoder c.next_of.new.ahead (g.T.Reporter.reported c.look_at_event.new.reporting.report.now).report)
    c.events.digests c.look_at_event.new.digests c.in-Some.event c.in_err-more-in-Some.field-0.0 c.from_residual-in_err-more-in-Some.result c.from_residual-in_err-more-in-Some.ensures.1 c.events.invariant.looking
    (subst (λ e. TakesNext (g.R.Read.remaining c.events.reader) (g.R.Read.remaining c.next_of.new.reader) c.events.stream.decoder c.next_of.new.decoder c.events.stream.ahead c.next_of.new.ahead e) c.in-Some.is c.in_ok-event.ensures.ok)
    c.in_err-more-in-Some.ensures.looks

pub returns-in_err-more-in-Some-clause-told : goal.returns-in_err-more-in-Some-clause-told
returns-in_err-more-in-Some-clause-told g c =
    told_then _ (g.T.Reporter.reported c.events.reporting.report.now) (g.T.Reporter.reported c.look_at_event.new.reporting.report.now) _ _ _ c.events.invariant.told c.look_at_event.ensures.told

pub returns-then-not-more-clause-looks : goal.returns-then-not-more-clause-looks
returns-then-not-more-clause-looks g c =
    let more : c.in_ok-more-in-Some.more ≡ false = search rules in
    ends_lacking c.events_only_grow.ensures c.args.setting.how c.events._event c.args.differing.now.our_digest c.args.differing.now.their_digest
    (stand (g.R.Read.remaining c.args.reader.now) (g.O.Read.remaining c.args.other.now) (g.W.Write.contents c.args.writer.now) c.args.stream.now.decoder c.args.stream.now.ahead (g.T.Reporter.reported c.args.reporting.now.report.now).report)
    (stand (g.R.Read.remaining c.events.reader) (g.O.Read.remaining c.events.other) (g.W.Write.contents c.events.writer) c.events.stream.decoder c.events.stream.ahead (g.T.Reporter.reported c.events.reporting.report.now).report)
    (stand (g.R.Read.remaining c.next_of.new.reader) (g.O.Read.remaining c.look_at_event.new.other) (g.W.Write.contents c.look_at_event.new.writer) c.next_of.new.decoder c.next_of.new.ahead (g.T.Reporter.reported c.look_at_event.new.reporting.report.now).report)
    c.events.digests c.look_at_event.new.digests c.in-Some.event c.events.invariant.looking
    (subst (λ e. TakesNext (g.R.Read.remaining c.events.reader) (g.R.Read.remaining c.next_of.new.reader) c.events.stream.decoder c.next_of.new.decoder c.events.stream.ahead c.next_of.new.ahead e) c.in-Some.is c.in_ok-event.ensures.ok)
    (subst (λ b. LooksAtEvent c.args.setting.how c.in-Some.event (g.O.Read.remaining c.events.other) (g.O.Read.remaining c.look_at_event.new.other) (g.W.Write.contents c.events.writer) (g.W.Write.contents c.look_at_event.new.writer) (g.T.Reporter.reported c.events.reporting.report.now).report (g.T.Reporter.reported c.look_at_event.new.reporting.report.now).report c.events.digests c.look_at_event.new.digests (Ok b)) more c.in_ok-more-in-Some.ensures.looks)

pub returns-then-not-more-clause-told : goal.returns-then-not-more-clause-told
returns-then-not-more-clause-told g c =
    told_then _ (g.T.Reporter.reported c.events.reporting.report.now) (g.T.Reporter.reported c.look_at_event.new.reporting.report.now) _ _ _ c.events.invariant.told c.look_at_event.ensures.told

pub returns-in-None-clause-looks : goal.returns-in-None-clause-looks
returns-in-None-clause-looks g c =
    ends_stream c.args.setting.how c.events._event c.args.differing.now.our_digest c.args.differing.now.their_digest
    (stand (g.R.Read.remaining c.args.reader.now) (g.O.Read.remaining c.args.other.now) (g.W.Write.contents c.args.writer.now) c.args.stream.now.decoder c.args.stream.now.ahead (g.T.Reporter.reported c.args.reporting.now.report.now).report)
    (stand (g.R.Read.remaining c.events.reader) (g.O.Read.remaining c.events.other) (g.W.Write.contents c.events.writer) c.events.stream.decoder c.events.stream.ahead (g.T.Reporter.reported c.events.reporting.report.now).report)
    (stand (g.R.Read.remaining c.next_of.new.reader) (g.O.Read.remaining c.events.other) (g.W.Write.contents c.events.writer) c.next_of.new.decoder c.next_of.new.ahead (g.T.Reporter.reported c.events.reporting.report.now).report)
    c.events.digests c.events.invariant.looking
    (subst (λ e. TakesNext (g.R.Read.remaining c.events.reader) (g.R.Read.remaining c.next_of.new.reader) c.events.stream.decoder c.next_of.new.decoder c.events.stream.ahead c.next_of.new.ahead e) c.in-None.is c.in_ok-event.ensures.ok)
    refl refl refl

pub events-preserved : goal.events-preserved
events-preserved g c =
    let less : is_enough c.args.setting.how (length c.events.digests.ours) ≡ false = ap (λ l. is_enough c.args.setting.how (length l)) (sym c.ours.ensures) ∙ sym c.is_enough.ensures ∙ c.if-is_enough.false in
    let more : c.in_ok-more-in-Some.more ≡ true = search rules in
    record {
      looking = goes_on c.args.setting.how c.events._event c.args.differing.now.our_digest c.args.differing.now.their_digest
          (stand (g.R.Read.remaining c.args.reader.now) (g.O.Read.remaining c.args.other.now) (g.W.Write.contents c.args.writer.now) c.args.stream.now.decoder c.args.stream.now.ahead (g.T.Reporter.reported c.args.reporting.now.report.now).report)
          (stand (g.R.Read.remaining c.events.reader) (g.O.Read.remaining c.events.other) (g.W.Write.contents c.events.writer) c.events.stream.decoder c.events.stream.ahead (g.T.Reporter.reported c.events.reporting.report.now).report)
          (stand (g.R.Read.remaining c.next_of.new.reader) (g.O.Read.remaining c.look_at_event.new.other) (g.W.Write.contents c.look_at_event.new.writer) c.next_of.new.decoder c.next_of.new.ahead (g.T.Reporter.reported c.look_at_event.new.reporting.report.now).report)
          c.events.digests c.look_at_event.new.digests c.in-Some.event c.events.invariant.looking less
          (subst (λ e. TakesNext (g.R.Read.remaining c.events.reader) (g.R.Read.remaining c.next_of.new.reader) c.events.stream.decoder c.next_of.new.decoder c.events.stream.ahead c.next_of.new.ahead e) c.in-Some.is c.in_ok-event.ensures.ok)
          (subst (λ b. LooksAtEvent c.args.setting.how c.in-Some.event (g.O.Read.remaining c.events.other) (g.O.Read.remaining c.look_at_event.new.other) (g.W.Write.contents c.events.writer) (g.W.Write.contents c.look_at_event.new.writer) (g.T.Reporter.reported c.events.reporting.report.now).report (g.T.Reporter.reported c.look_at_event.new.reporting.report.now).report c.events.digests c.look_at_event.new.digests (Ok b)) more c.in_ok-more-in-Some.ensures.looks);
      told = told_then _ (g.T.Reporter.reported c.events.reporting.report.now) (g.T.Reporter.reported c.look_at_event.new.reporting.report.now) _ _ _ c.events.invariant.told c.look_at_event.ensures.told;
      lent = lent_then c.args.reporting.now c.events.reporting c.look_at_event.new.reporting c.events.invariant.lent c.look_at_event.ensures.lent;
    }

pub returns-clause-looks : goal.returns-clause-looks
returns-clause-looks g c =
    too_many_looked c.events_only_grow.ensures c.args.setting.how c.events._event c.args.differing.now.our_digest c.args.differing.now.their_digest
    (stand (g.R.Read.remaining c.args.reader.now) (g.O.Read.remaining c.args.other.now) (g.W.Write.contents c.args.writer.now) c.args.stream.now.decoder c.args.stream.now.ahead (g.T.Reporter.reported c.args.reporting.now.report.now).report)
    (stand (g.R.Read.remaining c.events.reader) (g.O.Read.remaining c.events.other) (g.W.Write.contents c.events.writer) c.events.stream.decoder c.events.stream.ahead (g.T.Reporter.reported c.events.reporting.report.now).report)
    c.events.digests (omega (arith, c.events-test.false)) c.events.invariant.looking
