use Rattle.avc_console.proofs.Texts.{ended_by}
use Rattle.avc_console.proofs.program.tell.Goals as goal

pub returns-in-Err : goal.returns-in-Err
returns-in-Err g c =
    ended_by c.args.names.now c.args.tally.now c.args.run c.in-Err.fault c.is_told-in-Err.result _ _ c.fail_behind.result c.in-Err.is c.is_told-in-Err.ensures
    c.fail_behind.ensures.status c.fail_behind.ensures.told
