use Rattle.avc_tools.proofs.Taking.{stays_as_it_is}
use Rattle.avc_tools.proofs.cutter.Cutter.take_in.Goals as goal

pub returns-in-Over : goal.returns-in-Over
returns-in-Over c = λ s h. stays_as_it_is s c.args.unit.now c.args.self.now c.args.piece.now.items h c.in-Over.is
