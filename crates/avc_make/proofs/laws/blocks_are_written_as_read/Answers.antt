use Rattle.avc_make.proofs.Slices.{block_forth}
use Rattle.avc_make.proofs.laws.blocks_are_written_as_read.Goals as goal

pub returns : goal.returns
returns c = block_forth
