use Rattle.avc_run.proofs.Running.{subst, events_left, BreaksOffFrom, by_fault, front_broken}
use Rattle.avc_run.proofs.decoding.take_unit.Goals as goal

pub returns-in_err-drain-clause-err : goal.returns-in_err-drain-clause-err
returns-in_err-drain-clause-err g c =
    let f = g.F.PictureFormat.format c.args.format.now in
    let fault = c.in_err-drain.field-0.0 in
    let before = (g.T.Reporter.reported c.args.reporting.now.report.now).report in
    let now = (g.T.Reporter.reported c.drain.new.reporting.report.now).report in
    by_fault c.from_residual-in_err-drain.result fault _ c.from_residual-in_err-drain.ensures.1
    (front_broken f c.events_only_grow.ensures c.args.decoder.now c.args.bytes.now c.in_ok-used.used before now _ _ fault c.requires
    (subst (λ m. BreaksOffFrom f before now fault (g.W.Write.contents c.args.writer.now) (g.W.Write.contents c.drain.new.writer) (events_left m)) c.in_ok-used.ensures.ok c.in_err-drain.ensures.err))
