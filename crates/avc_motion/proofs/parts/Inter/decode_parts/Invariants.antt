use Rattle.avc_motion.proofs.MacroblockMotion.{◌≡◌, drop, info_of, motion_near, decoded}
use Rattle.avc_motion.proofs.parts.Inter.decode_parts.Given as goal

abbrev pub invariant-loop-i : goal.invariant-loop-i
invariant-loop-i l =
    decoded (motion_near (info_of l.self.neighbours.now)) l.self.mb_type.now l.self.ref_idx.now l.mine (drop l.i l.parts) (drop l.i l.mvd)
    ≡ decoded (motion_near (info_of l.self.neighbours.now)) l.self.mb_type.now l.self.ref_idx.now l.fn.mine l.parts l.mvd
