use Rattle.avc_compare.proofs.Comparisons.{ℕ, sym, List, Option, names_of, report_in, run_of, subst}
use Rattle.avc_console.specs.Program.{TellsRun}
use Rattle.avc_console.specs.Reporting.{reported_by, IsTold}
use Rattle.avc_compare.proofs.program.tell_end.Goals as goal

pub returns-in-Ok : goal.returns-in-Ok
returns-in-Ok g c =
    subst (λ e. (start : Option (List ℕ)) → IsTold start (g.E.Write.contents c.args.errors.now) (reported_by c.args.tally.now)
    → TellsRun (names_of c.args.names.now c.args.other_name e) c.args.tally.now.explained (report_in c.args.tally.now) (run_of e) start (g.E.Write.contents c.tell.new.errors) c.tell.result)
    (sym c.in-Ok.is) c.tell.ensures

pub returns-in-Err : goal.returns-in-Err
returns-in-Err g c =
    subst (λ e. (start : Option (List ℕ)) → IsTold start (g.E.Write.contents c.args.errors.now) (reported_by c.args.tally.now)
    → TellsRun (names_of c.args.names.now c.args.other_name e) c.args.tally.now.explained (report_in c.args.tally.now) (run_of e) start (g.E.Write.contents c.tell_fault.new.errors) c.tell_fault.result)
    (sym c.in-Err.is) c.tell_fault.ensures
