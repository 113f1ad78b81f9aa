use Rattle.avc_console.proofs.Texts.{by_fault, subst, Appends}
use Rattle.avc_console.proofs.Waiting.{all_written, failed_behind}
use Rattle.avc_console.proofs.streaming.write_or_keep.Goals as goal

pub returns-in_err-write_all-2-clause-err : goal.returns-in_err-write_all-2-clause-err
returns-in_err-write_all-2-clause-err g c =
    let fault = c.in_err-write_all-2.field-0.0 in
    by_fault c.from_residual-in_err-write_all-2.result fault _ c.from_residual-in_err-write_all-2.ensures.1
    (failed_behind fault _ _ _ c.args.waiting.now.items c.args.added.now (subst (Appends _ _) c.deref.ensures.value c.in_ok-write_all.ensures.ok) c.in_err-write_all-2.ensures.err)

pub returns-clause-ok : goal.returns-clause-ok
returns-clause-ok g c =
    all_written c.args.waiting.now.items c.args.added.now c.clear.new.self.items _ _ _ (subst (Appends _ _) c.deref.ensures.value c.in_ok-write_all.ensures.ok)
    c.in_ok-write_all-2.ensures.ok c.clear.ensures.items
