use Rattle.avc_compare.proofs.Comparisons.Streams.{dropped}
use Rattle.avc_compare.proofs.ahead.Ahead.drop_first.Goals as goal

pub returns : goal.returns
returns c = dropped _ _ _ c.args.used c.self.inside.has_ended c.args.self.now c.self.view_is c.requires
