use Rattle.avc_compare.proofs.Comparisons.{ℕ, sym, Err, List, Option, fault_names, report_in, run_fault, subst}
use Rattle.avc_console.specs.Program.{TellsRun}
use Rattle.avc_console.specs.Reporting.{reported_by, IsTold}
use Rattle.avc_compare.proofs.program.tell_fault.Goals as goal

pub returns-in-Ours : goal.returns-in-Ours
returns-in-Ours g c =
    subst (λ f. (start : Option (List ℕ)) → IsTold start (g.E.Write.contents c.args.errors.now) (reported_by c.args.tally.now)
    → TellsRun (fault_names c.args.names.now c.args.other_name f) c.args.tally.now.explained (report_in c.args.tally.now) (Err (run_fault f)) start (g.E.Write.contents c.tell.new.errors) c.tell.result)
    (sym c.in-Ours.is) c.tell.ensures

pub returns-in-Theirs : goal.returns-in-Theirs
returns-in-Theirs g c =
    subst (λ f. (start : Option (List ℕ)) → IsTold start (g.E.Write.contents c.args.errors.now) (reported_by c.args.tally.now)
    → TellsRun (fault_names c.args.names.now c.args.other_name f) c.args.tally.now.explained (report_in c.args.tally.now) (Err (run_fault f)) start (g.E.Write.contents c.tell-in-Theirs.new.errors)
    c.tell-in-Theirs.result)
    (sym c.in-Theirs.is) c.tell-in-Theirs.ensures
