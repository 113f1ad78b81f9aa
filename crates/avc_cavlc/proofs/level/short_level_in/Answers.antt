use Rattle.avc_cavlc.proofs.Short.{there}
use Rattle.avc_cavlc.proofs.level.short_level_in.Goals as goal

pub returns : goal.returns
returns c = λ are. there c.args.tables.now c.args.stage c.args.bits _ are c.requires.stage c.requires.seven
