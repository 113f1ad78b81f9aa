use Rattle.avc_mbsyntax.proofs.SliceDataReading.{arith, i_mb_16x16, reads_into_same}
use Rattle.avc_mbsyntax.proofs.intra.read_i_mb.Goals as goal

pub returns-in_default-clause-read : goal.returns-in_default-clause-read
returns-in_default-clause-read c = grind (arith, reads_into_same, i_mb_16x16)
