use Rattle.avc_run.proofs.Running.{◌≤◌, ◌-◌, length, take, after_feed, IsHandled, LendsTheSame, ReportsOn}
use Rattle.avc_run.proofs.decoding.take_in.Given as goal

abbrev pub invariant-units : goal.invariant-units
invariant-units g l = record {
  within : l.done ≤ length l.piece;
  handled : IsHandled (g.F.PictureFormat.format l.format) (after_feed (take l.done l.piece) l.initial.decoder) l.decoder (g.T.Reporter.reported l.initial.reporting.report.now).report
      (g.T.Reporter.reported l.reporting.report.now).report (g.W.Write.contents l.initial.writer) (g.W.Write.contents l.writer);
  told : ReportsOn g.T.Reporter.reported g.E.Write.contents l.initial.reporting l.reporting;
  lent : LendsTheSame l.initial.reporting l.reporting;
}

abbrev pub decreases-units : goal.decreases-units
decreases-units g l = length l.piece - l.done
