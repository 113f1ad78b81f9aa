use Rattle.avc_compare.proofs.Comparisons.{stand, GoesOn, LendsTheSame, ReportsOn}
use Rattle.avc_compare.proofs.looking.look_on.Given as goal

abbrev pub invariant-events : goal.invariant-events
invariant-events g l = record {
  looking : GoesOn l.setting.how l._event l.fn.differing.our_digest l.fn.differing.their_digest
      (stand (g.R.Read.remaining l.fn.reader) (g.O.Read.remaining l.fn.other) (g.W.Write.contents l.fn.writer) l.fn.stream.decoder l.fn.stream.ahead (g.T.Reporter.reported l.fn.reporting.report.now).report)
      (stand (g.R.Read.remaining l.reader) (g.O.Read.remaining l.other) (g.W.Write.contents l.writer) l.stream.decoder l.stream.ahead (g.T.Reporter.reported l.reporting.report.now).report) l.digests;
  told : ReportsOn g.T.Reporter.reported g.E.Write.contents l.fn.reporting l.reporting;
  lent : LendsTheSame l.fn.reporting l.reporting;
}
