use Rattle.avc_console.proofs.Texts.{fault_line, more_told}
use Rattle.avc_console.proofs.program.fail_behind.Goals as goal

pub returns-then-is_told-clause-told : goal.returns-then-is_told-clause-told
returns-then-is_told-clause-told g c =
    more_told c.args.is_told _ _ (fault_line c.args.names.now c.args.fault) c.fail.result.told c.if-is_told.true c.fail.ensures.told
