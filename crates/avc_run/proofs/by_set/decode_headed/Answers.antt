use Rattle.avc_run.proofs.Running.{lent_run_told, report_in, rules}
use Rattle.avc_run.proofs.by_set.decode_headed.Goals as goal

pub returns : goal.returns
returns g c = record {
  report = report_in c.run_headed-run.new.reporting.report.now;
  run = c.run_headed-run.result;
  decodes = c.run_headed-run.ensures.decodes;
  tells = lent_run_told c.args.console.now.names c.args.console.now.is_explained c.new-tally.result c.run_headed-run.new.reporting.report.now _ c.run_headed-run.result _ _ _ c.tell.result c.new-tally.ensures
      c.run_headed-run.ensures.told c.tell.ensures (search rules);
}
