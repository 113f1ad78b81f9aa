use Rattle.avc_make.proofs.Slices.{reverse, arith, drop_all}
use Rattle.avc_make.proofs.Slices.{coded_size}
use Rattle.avc_make.proofs.coefficients.Coefficients.of.Goals as goal

pub returns-clause-size : goal.returns-clause-size
returns-clause-size g c = grind (arith, drop_all, reverse, coded_size)
