use Rattle.avc_compare.proofs.Comparisons.{ap, subst, Ok, ComparesPicture, picture_passed, refused_passed}
use Rattle.avc_console.specs.Reporting.{Reported}
use Rattle.avc_compare.proofs.comparison.compare_event.Goals as goal

pub returns-in-Picture-clause-compares : goal.returns-in-Picture-clause-compares
returns-in-Picture-clause-compares g c =
    picture_passed c.args.setting.how c.counts-number.result.pictures c.args.event c.in-Picture.picture _ _ _ _ (g.T.Reporter.reported c.args.reporting.now.report.now).report
    (g.T.Reporter.reported c.count_picture.new.self).report c.in-Picture.is c.counts-number.ensures.pictures (ap (λ (q : Reported). q.report) c.count_picture.ensures)
    (subst (λ f. ComparesPicture c.args.setting.how c.counts-number.result.pictures c.in-Picture.picture (g.O.Read.remaining c.args.other.now) (g.O.Read.remaining c.compare_picture.new.other)
    (g.W.Write.contents c.args.writer.now) (g.W.Write.contents c.compare_picture.new.writer) (Ok f)) c.in-None.is c.in_ok-verdict-in-Picture.ensures)

pub returns-clause-compares : goal.returns-clause-compares
returns-clause-compares g c =
    refused_passed c.args.setting.how c.args.event c.in-Refused.unit c.in-Refused.fault _ _ (g.T.Reporter.reported c.args.reporting.now.report.now).report (g.T.Reporter.reported c.refuse.new.self).report c.in-Refused.is
    c.in_ok-refuse-in-Refused.ensures.ok
