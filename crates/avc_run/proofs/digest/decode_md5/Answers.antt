use Rattle.avc_run.proofs.Running.{lent_run_told, report_in, rules}
use Rattle.avc_run.proofs.digest.decode_md5.Goals as goal

pub returns : goal.returns
returns g c = record {
  report = report_in c.run_md5-run.new.reporting.report.now;
  run = c.run_md5-run.result;
  writes = c.run_md5-run.ensures.writes;
  tells = lent_run_told c.args.console.now.names c.args.console.now.is_explained c.new-tally.result c.run_md5-run.new.reporting.report.now _ c.run_md5-run.result _ _ _ c.tell.result c.new-tally.ensures
      c.run_md5-run.ensures.told c.tell.ensures (search rules);
}
