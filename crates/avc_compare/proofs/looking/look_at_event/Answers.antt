use Rattle.avc_compare.proofs.Comparisons.{ap, subst, Ok, LooksAt}
use Rattle.avc_console.specs.Reporting.{Reported}
use Rattle.avc_compare.proofs.Further.{picture_looked_at}
use Rattle.avc_compare.proofs.looking.look_at_event.Goals as goal

pub returns-then-branch-clause-looks : goal.returns-then-branch-clause-looks
returns-then-branch-clause-looks g c =
    picture_looked_at c.args.setting.how c.counts-number.result.pictures c.args.event c.in-Picture.picture _ _ _ _ (g.T.Reporter.reported c.args.reporting.now.report.now).report
    (g.T.Reporter.reported c.count_picture.new.self).report c.args.digests.now c.look_at_picture.new.digests c.in-Picture.is c.counts-number.ensures.pictures (ap (λ (q : Reported). q.report) c.count_picture.ensures)
    (subst (λ b. LooksAt c.args.setting.how c.counts-number.result.pictures c.in-Picture.picture (g.O.Read.remaining c.args.other.now) (g.O.Read.remaining c.look_at_picture.new.other)
    (g.W.Write.contents c.args.writer.now) (g.W.Write.contents c.look_at_picture.new.writer) c.args.digests.now c.look_at_picture.new.digests (Ok b)) c.if-branch.true c.in_ok-look_at_picture-in-Picture.ensures)
