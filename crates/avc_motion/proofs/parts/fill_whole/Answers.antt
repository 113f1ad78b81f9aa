use Rattle.avc_motion.proofs.MacroblockMotion.{◌*◌, arith, refl, set_more}
use Rattle.avc_motion.proofs.parts.fill_whole.Goals as goal

pub loop-k-preserved : goal.loop-k-preserved
loop-k-preserved c =
    set_more (λ j. c.args.motion) c.args.mine.now c.loop-k.mine c.args.motion (4 * c.args.quarter) c.loop-k.k (omega arith) refl c.loop-k.invariant
