use Rattle.avc_tools.proofs.Taking.{left_by_feed, left_by_finish, on_ok}
use Rattle.avc_tools.proofs.units.take_more.Goals as goal

pub returns-then-ends-clause-left : goal.returns-then-ends-clause-left
returns-then-ends-clause-left g c = on_ok c.finish.result (left_by_finish c.units_stay.ensures g.row.MAX _ _ c.requires) c.finish.ensures.ok

pub returns-else-ends-clause-left : goal.returns-else-ends-clause-left
returns-else-ends-clause-left g c = on_ok c.feed.result (left_by_feed c.units_stay.ensures g.row.MAX _ _ c.args.piece.now c.requires) c.feed.ensures.ok
