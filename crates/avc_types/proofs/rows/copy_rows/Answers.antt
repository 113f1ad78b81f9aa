use Rattle.avc_types.proofs.Frames.{◌+◌, ◌*◌, arith, row_fits, cases_lt}
use Rattle.avc_types.proofs.rows.copy_rows.Goals as goal

pub loop-y-preserved : goal.loop-y-preserved
loop-y-preserved c x y column below =
    grind (arith, cases_lt y c.loop-y.y, row_fits y c.args.width c.loop-y.y c.args.width, c.copy_row.ensures.before (y * c.args.width + x), c.loop-y.invariant x y, c.copy_row.ensures.here x)
