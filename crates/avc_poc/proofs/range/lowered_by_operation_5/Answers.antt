use Rattle.avc_poc.proofs.OrderCounts.{arith, ints, clamps, both_are}
use Rattle.avc_poc.proofs.range.lowered_by_operation_5.Goals as goal

pub returns : goal.returns
returns c = both_are _ _ _ _ (omega (arith, ints, clamps)) (omega (arith, ints, clamps))
