use Rattle.avc_motion.proofs.MacroblockMotion.{◌*◌, AreSet}
use Rattle.avc_motion.proofs.parts.fill_whole.Given as goal

abbrev pub invariant-loop-k : goal.invariant-loop-k
invariant-loop-k l = AreSet (λ j. l.motion) l.fn.mine l.mine (4 * l.quarter) l.k
