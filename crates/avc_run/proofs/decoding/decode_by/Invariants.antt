use Rattle.avc_run.proofs.Running.{prepend_known, IsReading, LendsTheSame, ReportsOn}
use Rattle.avc_run.proofs.decoding.decode_by.Given as goal

abbrev pub invariant-pieces : goal.invariant-pieces
invariant-pieces g l = record {
  reading : IsReading (g.F.PictureFormat.format l.format) l.front l._read l.fn.decoder.output (prepend_known l.front (g.R.Read.remaining l.fn.reader)) (g.R.Read.remaining l.reader)
      (g.W.Write.contents l.fn.writer) (g.W.Write.contents l.writer) l.decoder (g.T.Reporter.reported l.reporting.report.now).report;
  told : ReportsOn g.T.Reporter.reported g.E.Write.contents l.fn.reporting l.reporting;
  lent : LendsTheSame l.fn.reporting l.reporting;
}
