use Rattle.avc_run.proofs.Running.{plainly_err, plainly_ok, rules}
use Rattle.avc_run.proofs.decoding.run.Goals as goal

pub returns-in-Ok : goal.returns-in-Ok
returns-in-Ok g c = plainly_ok c.args.output _ _ _ _ _ _ c.run_watched-run.result c.in-Ok.field-0 c.in-Ok.is c.run_watched-run.ensures.decodes (search rules)

pub returns-in-Err : goal.returns-in-Err
returns-in-Err g c = plainly_err c.args.output _ _ _ _ _ c.run_watched-run.result c.in-Err.fault c.in-Err.is c.run_watched-run.ensures.decodes
