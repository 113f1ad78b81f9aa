use Rattle.avc_yuv.proofs.Windows.{gathered_anew}
use Rattle.avc_yuv.proofs.gather.gather.Goals as goal

pub returns-clause-rows : goal.returns-clause-rows
returns-clause-rows g c =
    gathered_anew c.args.before c.args.row.now c.args.room.now _ _ _ _ c.in_ok-written.written c.gather_first.result c.in_ok-written.ensures c.gather_first.ensures.rows
