use Rattle.avc_compare.proofs.Comparisons.{ap, Ok, stand, told_then}
use Rattle.avc_console.specs.Reporting.{Reported}
use Rattle.avc_compare.proofs.Further.{counted_told, sought}
use Rattle.avc_compare.proofs.looking.seek_displaced.Goals as goal

pub returns-in_err-digests-clause-told : goal.returns-in_err-digests-clause-told
returns-in_err-digests-clause-told g c =
    told_then _ (g.T.Reporter.reported c.count_picture.new.self) (g.T.Reporter.reported c.look_on.new.reporting.report.now) _ _ _
    (counted_told (g.T.Reporter.reported c.args.reporting.now.report.now) (g.T.Reporter.reported c.count_picture.new.self) _ c.count_picture.ensures) c.look_on.ensures.told

pub returns-in_err-find_displaced-clause-told : goal.returns-in_err-find_displaced-clause-told
returns-in_err-find_displaced-clause-told g c =
    told_then _ (g.T.Reporter.reported c.count_picture.new.self) (g.T.Reporter.reported c.look_on.new.reporting.report.now) _ _ _
    (counted_told (g.T.Reporter.reported c.args.reporting.now.report.now) (g.T.Reporter.reported c.count_picture.new.self) _ c.count_picture.ensures) c.look_on.ensures.told

pub returns-clause-told : goal.returns-clause-told
returns-clause-told g c =
    told_then _ (g.T.Reporter.reported c.count_picture.new.self) (g.T.Reporter.reported c.look_on.new.reporting.report.now) _ _ _
    (counted_told (g.T.Reporter.reported c.args.reporting.now.report.now) (g.T.Reporter.reported c.count_picture.new.self) _ c.count_picture.ensures) c.look_on.ensures.told

pub returns-clause-seeks : goal.returns-clause-seeks
returns-clause-seeks g c =
    sought c.args.setting.how c.args.differing.now
    (stand (g.R.Read.remaining c.args.reader.now) (g.O.Read.remaining c.args.other.now) (g.W.Write.contents c.args.writer.now) c.args.stream.now.decoder c.args.stream.now.ahead (g.T.Reporter.reported c.args.reporting.now.report.now).report)
    (stand (g.R.Read.remaining c.args.reader.now) (g.O.Read.remaining c.args.other.now) (g.W.Write.contents c.args.writer.now) c.args.stream.now.decoder c.args.stream.now.ahead (g.T.Reporter.reported c.count_picture.new.self).report)
    (stand (g.R.Read.remaining c.look_on.new.reader) (g.O.Read.remaining c.look_on.new.other) (g.W.Write.contents c.look_on.new.writer) c.look_on.new.stream.decoder c.look_on.new.stream.ahead (g.T.Reporter.reported c.look_on.new.reporting.report.now).report)
    (Ok c.in_ok-digests.digests) (Ok c.in_ok-find_displaced.field-0)
    (ap (λ (q : Reported). stand (g.R.Read.remaining c.args.reader.now) (g.O.Read.remaining c.args.other.now) (g.W.Write.contents c.args.writer.now) c.args.stream.now.decoder c.args.stream.now.ahead q.report) c.count_picture.ensures)
    c.in_ok-digests.ensures.looks c.in_ok-find_displaced.ensures.ok
