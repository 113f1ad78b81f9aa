use Rattle.avc_make.proofs.Slices.{arith, length-reverse, length-take-le}
use Rattle.avc_make.proofs.coefficients.Coefficients.len.Goals as goal

pub returns-clause-value : goal.returns-clause-value
returns-clause-value c = grind (arith, length-reverse, length-take-le)
