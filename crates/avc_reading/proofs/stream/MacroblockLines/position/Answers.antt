use Rattle.avc_reading.proofs.Read.{arith, max_unit, tells_met}
use Rattle.avc_reading.proofs.stream.MacroblockLines.position.Goals as goal

pub returns-clause-met : goal.returns-clause-met
returns-clause-met g c = rw (← c.self.view_is) (λ going short. tells_met _ max_unit _ _ _ _ (c.self.invariant going) (omega (arith, short)))
