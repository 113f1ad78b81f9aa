use Rattle.avc_motion.proofs.MacroblockMotion.{◌*◌, slice_index_or, if◌then◌else◌, absent, is_in_part, AreSet}
use Rattle.avc_motion.proofs.parts.fill_blocks.Given as goal

abbrev pub invariant-loop-k : goal.invariant-loop-k
invariant-loop-k l = AreSet (λ j. if is_in_part l.part j then l.motion else slice_index_or l.fn.mine j absent) l.fn.mine l.mine (4 * l.quarter) l.k
