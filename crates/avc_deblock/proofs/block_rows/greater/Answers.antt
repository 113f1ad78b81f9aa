use Rattle.std.proofs.Common.{rules}
use Rattle.avc_deblock.proofs.Lanes.{greater_at}
use Rattle.avc_deblock.proofs.block_rows.greater.Goals as goal

pub returns : goal.returns
returns c k low = greater_at c.args.u c.args.v 16 k (search rules) (search rules) low
