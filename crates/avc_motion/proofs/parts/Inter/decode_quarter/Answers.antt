use Rattle.avc_motion.proofs.MacroblockMotion.{◌≡◌, ◌+◌, rules, [], ◌∷◌, part, quarter_x, quarter_y, info_of, motion_near, of_same_parts}
use Rattle.avc_motion.proofs.parts.Inter.decode_quarter.Goals as goal

pub returns-in-Sub4x4 : goal.returns-in-Sub4x4
returns-in-Sub4x4 c =
    let q = c.args.quarter in
    let upper_left : c.part-in-Sub4x4.result ≡ part (quarter_x q) (quarter_y q) 4 4 q = search rules in
    let upper_right : c.part-in-Sub4x4-2.result ≡ part (quarter_x q + 4) (quarter_y q) 4 4 q = search rules in
    let lower_left : c.part-in-Sub4x4-3.result ≡ part (quarter_x q) (quarter_y q + 4) 4 4 q = search rules in
    let lower_right : c.part-in-Sub4x4-4.result ≡ part (quarter_x q + 4) (quarter_y q + 4) 4 4 q = search rules in
    rw (c.in-Sub4x4.is) (of_same_parts (motion_near (info_of c.args.self.now.neighbours.now)) c.args.self.now.mb_type.now c.args.self.now.ref_idx.now
    c.args.mine.now c.decode_sub_parts-in-Sub4x4.new.mine c.args.mvd.now c.decode_sub_parts-in-Sub4x4.result
    (c.part-in-Sub4x4.result ∷ c.part-in-Sub4x4-2.result ∷ c.part-in-Sub4x4-3.result ∷ c.part-in-Sub4x4-4.result ∷ [])
    (part (quarter_x q) (quarter_y q) 4 4 q ∷ part (quarter_x q + 4) (quarter_y q) 4 4 q ∷ part (quarter_x q) (quarter_y q + 4) 4 4 q ∷ part (quarter_x q + 4) (quarter_y q + 4) 4 4 q ∷ [])
    (cc) c.decode_sub_parts-in-Sub4x4.ensures)
