use Rattle.avc_compare.proofs.Comparisons.{Ok, Err, fault_names, findings_text, names_of, report_in, run_fault, run_of, run_told, subst, writes_text, Appends-nil, Compares}
use Rattle.avc_console.specs.Program.{TellsRun}
use Rattle.avc_compare.proofs.program.compare.Goals as goal

pub returns-in-Ok : goal.returns-in-Ok
returns-in-Ok g c =
    let names = c.args.console.now.names in
    let explained = c.args.console.now.is_explained in
    let ended = c.ended_by-ended.result in
    let told =
    run_told (names_of names c.args.other_name ended) explained c.new-tally.result c.run_comparison-run.new.report (run_of ended) _ _ _ c.tell_end-decoded.result
    c.new-tally.ensures c.run_comparison-run.ensures.told c.tell_end-decoded.ensures in
    record {
      report = report_in c.run_comparison-run.new.report;
      run = Ok c.in-Ok.findings;
      wrote = g.W.Write.contents c.run_comparison-run.new.writer;
      compares = c.in-Ok.ensures.compares;
      tells = (
        c.write_findings-written.result,
        c.tell_end-decoded.result,
        writes_text (findings_text c.in-Ok.findings) _ _ c.write_findings-written.result c.write_findings-written.ensures.ok c.write_findings-written.ensures.err,
        subst (λ e. TellsRun (names_of names c.args.other_name e) explained (report_in c.run_comparison-run.new.report) (run_of e) (g.E.Write.contents c.args.console.now.errors) (g.E.Write.contents c.tell_end-decoded.new.errors) c.tell_end-decoded.result)
            c.ended_by-ended.ensures told,
        c.end_with.ensures.told,
        c.end_with.ensures.status,
      );
    }

pub returns-in-Err : goal.returns-in-Err
returns-in-Err g c = record {
  report = report_in c.run_comparison-run.new.report;
  run = Err c.in-Err.fault;
  wrote = g.W.Write.contents c.run_comparison-run.new.writer;
  compares = subst (λ r. Compares c.args.how (g.R.Read.remaining c.args.reader.now) (g.R.Read.remaining c.run_comparison-run.new.reader) (g.O.Read.remaining c.args.other.now)
      (g.O.Read.remaining c.run_comparison-run.new.other) (g.W.Write.contents c.args.writer.now) (g.W.Write.contents c.run_comparison-run.new.writer) (report_in c.run_comparison-run.new.report) r) c.in-Err.is c.run_comparison-run.ensures.compares;
  tells = (
    Appends-nil _,
    run_told (fault_names c.args.console.now.names c.args.other_name c.in-Err.fault) c.args.console.now.is_explained c.new-tally.result c.run_comparison-run.new.report (Err (run_fault c.in-Err.fault))
        _ _ _ c.tell_fault.result c.new-tally.ensures c.run_comparison-run.ensures.told c.tell_fault.ensures,
  );
}
