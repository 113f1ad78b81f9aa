use Rattle.avc_motion.proofs.MacroblockMotion.{info_of, motion_near, decoded_alike}
use Rattle.avc_motion.proofs.macroblock.set_inter.Goals as goal

pub returns-clause-alike : goal.returns-clause-alike
returns-clause-alike c = λ one.
    decoded_alike (motion_near (info_of c.args.neighbours.now)) c.args.ref_idx.now c.args.mb_type.now c.args.mvd.now c.set_all.new.blocks c.decode.new.mine one
    c.set_all.ensures.all c.in_ok-decode.ensures.motion
