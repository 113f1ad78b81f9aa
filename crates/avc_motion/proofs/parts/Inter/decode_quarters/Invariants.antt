use Rattle.avc_motion.proofs.MacroblockMotion.{◌≡◌, ◌≤◌, ◌*◌, drop, parts_of_quarters, info_of, motion_near, decoded}
use Rattle.avc_motion.proofs.parts.Inter.decode_quarters.Given as goal

abbrev pub invariant-loop-quarter : goal.invariant-loop-quarter
invariant-loop-quarter l = record {
  few : l.used ≤ 4 * l.quarter;
  so_far :
      decoded (motion_near (info_of l.self.neighbours.now)) l.self.mb_type.now l.self.ref_idx.now l.mine (parts_of_quarters (drop l.quarter l.sub_mb_type) l.quarter) (drop l.used l.mvd)
      ≡ decoded (motion_near (info_of l.self.neighbours.now)) l.self.mb_type.now l.self.ref_idx.now l.fn.mine (parts_of_quarters l.sub_mb_type 0) l.mvd;
}
