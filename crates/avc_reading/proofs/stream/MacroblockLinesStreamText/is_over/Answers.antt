use Rattle.avc_reading.proofs.Read.{arith, max_unit, over_is}
use Rattle.avc_reading.proofs.stream.MacroblockLinesStreamText.is_over.Goals as goal

pub returns : goal.returns
returns g c = rw (← c.self.view_is) (λ going short. over_is _ max_unit _ _ _ _ _ c.is_some.ensures (c.self.invariant going) (omega (arith, short)))
