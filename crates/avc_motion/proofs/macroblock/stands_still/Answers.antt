use Rattle.avc_motion.proofs.MacroblockMotion.{ap, sym, refl, info_of, motion_near, near_in, skipped_is}
use Rattle.std.specs.Prelude.{replicate}
use Rattle.avc_neigh.specs.declared.neighbour_info.Motion.TheVariants.{Inter as inter}
use Rattle.avc_motion.specs.Motion.{still_blocks}
use Rattle.avc_motion.proofs.macroblock.stands_still.Goals as goal

pub returns-clause-motion : goal.returns-clause-motion
returns-clause-motion c = λ held p known a around.
    skipped_is (near_in p known a) (motion_near (info_of c.args.neighbours.now)) around.block still_blocks
    (ap (λ v. replicate 16 (inter 0 v)) (sym (c.is_held.ensures.still held))) refl
