use Rattle.avc_types.proofs.Frames.{◌-◌, arith, cases_lt}
use Rattle.avc_types.proofs.rows.copy_row.Goals as goal

pub returns-then-count-gt16-clause-here : goal.returns-then-count-gt16-clause-here
returns-then-count-gt16-clause-here c i below = grind (arith, cases_lt i (c.args.count - 16), c.copy_sixteen-then-count-gt16.ensures.here (i - (c.args.count - 16)))
