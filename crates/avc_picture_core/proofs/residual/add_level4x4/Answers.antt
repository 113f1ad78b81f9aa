use Rattle.avc_picture_core.proofs.InterTiles.{arith, w32, ints, with_block_same}
use Rattle.avc_picture_core.proofs.residual.add_level4x4.Goals as goal

pub returns : goal.returns
returns g c = grind (arith, ints, w32, with_block_same)
