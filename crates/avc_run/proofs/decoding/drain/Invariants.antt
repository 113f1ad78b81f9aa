use Rattle.avc_run.proofs.Running.{count_left, IsDraining, LendsTheSame, ReportsOn}
use Rattle.avc_run.proofs.decoding.drain.Given as goal

abbrev pub invariant-events : goal.invariant-events
invariant-events g l = record {
  draining : IsDraining (g.F.PictureFormat.format l.format) l.initial.decoder l.decoder (g.T.Reporter.reported l.initial.reporting.report.now).report
      (g.T.Reporter.reported l.reporting.report.now).report (g.W.Write.contents l.initial.writer) (g.W.Write.contents l.writer);
  told : ReportsOn g.T.Reporter.reported g.E.Write.contents l.initial.reporting l.reporting;
  lent : LendsTheSame l.initial.reporting l.reporting;
}

abbrev pub decreases-events : goal.decreases-events
decreases-events g l = count_left l.decoder
