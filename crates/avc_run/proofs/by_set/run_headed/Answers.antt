use Rattle.avc_run.proofs.Running.{decodes_behind, decodes_not, rules, selected_by}
use Rattle.avc_run.proofs.by_set.run_headed.Goals as goal

pub returns-in_err-front-clause-decodes : goal.returns-in_err-front-clause-decodes
returns-in_err-front-clause-decodes g c =
    decodes_not (selected_by c.args.asked) c.args.output _ _ _ (g.T.Reporter.reported c.args.reporting.now.report.now).report
    c.from_residual.result c.in_err-front.field-0.0 c.from_residual.ensures.1 c.requires c.in_err-front.ensures.err

pub returns-clause-decodes : goal.returns-clause-decodes
returns-clause-decodes g c =
    decodes_behind (selected_by c.args.asked) c.args.output _ _ _ _ _ _ _ _ _ _ (search rules) c.in_ok-front.ensures.ok c.run_behind.ensures.decodes
