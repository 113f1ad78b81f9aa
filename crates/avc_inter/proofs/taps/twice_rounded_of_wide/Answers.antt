use Rattle.avc_inter.proofs.SixRows.{arith, ints}
use Rattle.avc_inter.proofs.taps.twice_rounded_of_wide.Goals as goal

pub returns-clause-value : goal.returns-clause-value
returns-clause-value c = omega (arith, ints)

pub returns-clause-low : goal.returns-clause-low
returns-clause-low c = omega (arith, ints)

pub returns-clause-high : goal.returns-clause-high
returns-clause-high c = omega (arith, ints)
