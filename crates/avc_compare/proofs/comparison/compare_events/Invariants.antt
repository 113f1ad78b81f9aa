use Rattle.avc_compare.proofs.Comparisons.{IsComparing, LendsTheSame, ReportsOn}
use Rattle.avc_compare.proofs.comparison.compare_events.Given as goal

abbrev pub invariant-events : goal.invariant-events
invariant-events g l = record {
  comparing : IsComparing l.setting.how l._event (g.R.Read.remaining l.fn.reader) (g.R.Read.remaining l.reader) (g.O.Read.remaining l.fn.other) (g.O.Read.remaining l.other)
      (g.W.Write.contents l.fn.writer) (g.W.Write.contents l.writer) l.stream.decoder l.stream.ahead (g.T.Reporter.reported l.reporting.report.now).report;
  told : ReportsOn g.T.Reporter.reported g.E.Write.contents l.fn.reporting l.reporting;
  lent : LendsTheSame l.fn.reporting l.reporting;
}
