use Rattle.avc_types.proofs.Frames.{◌*◌, take-replicate, mul-le}
use Rattle.avc_types.proofs.block.Block.new.Goals as goal

pub returns : goal.returns
returns g c = take-replicate (g.row.W * g.row.H) 256 c.args.sample (mul-le g.row.W g.row.H 16 16 c.requires.columns.1 c.requires.rows.1)
