use Rattle.std.proofs.Common.{arith}
use Rattle.std.proofs.lemmas.Nat.Gcd.{IsGcd-from_zero, IsGcd-from_mod}
use Rattle.avc_presentation.proofs.ratio.greatest_common_divisor.Goals as goal

pub loop-y-preserved : goal.loop-y-preserved
loop-y-preserved c = record { divisor = λ g h. c.loop-y.invariant.divisor g (IsGcd-from_mod _ _ g h); above = omega arith }

pub returns-clause-divisor : goal.returns-clause-divisor
returns-clause-divisor c = c.loop-y.invariant.divisor _ (IsGcd-from_zero _ _ (omega arith))
