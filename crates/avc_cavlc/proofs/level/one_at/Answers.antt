use Rattle.avc_cavlc.proofs.Levels.{◌/◌, ◌%◌, ◌-◌, ◌^◌, ◌==◌, one_back, one_there}
use Rattle.avc_cavlc.proofs.level.one_at.Goals as goal

pub returns : goal.returns
returns c =
    one_back _ (c.args.signs / 2 ^ (2 - c.args.k) % 2 == 1) (one_there c.args.signs c.args.k c.requires.three c.requires.within)
