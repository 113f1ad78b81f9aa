use Rattle.avc_run.proofs.Running.{lent_run_told, report_in, rules, verified}
use Rattle.avc_run.proofs.digest.verify.Goals as goal

pub returns : goal.returns
returns g c =
    let names = c.args.console.now.names in
    let explained = c.args.console.now.is_explained in
    let told = lent_run_told names explained c.new-tally.result c.sum-run.new.reporting.report.now _ c.sum-run.result.0 _ _ _ c.tell-decoded.result c.new-tally.ensures c.sum-run.ensures.told c.tell-decoded.ensures (search rules) in
    verified names explained (g.F.PictureFormat.format c.args.format.now) c.args.output c.args.expected c.sum-run.result.1 _ _ (report_in c.sum-run.new.reporting.report.now) c.sum-run.result.0 _ _ _ c.tell-decoded.result c.end_compared.result
    c.sum-run.ensures.sums told c.end_compared.ensures.same c.end_compared.ensures.status c.end_compared.ensures.told
