use Rattle.avc_motion.proofs.MacroblockMotion.{◌≡◌, [], ◌∷◌, arith, sym, ap, ◌∙◌, subst, drop, Option, List, info_of, motion_near, Motion, decoded}
use Rattle.avc_motion.proofs.MacroblockMotion.{Decodes, decodes_ok, decoded_before, all_behind}
use Rattle.avc_motion.proofs.parts.Inter.decode_halves.Goals as goal

pub returns : goal.returns
returns c =
    let a = c.args in
    let near = motion_near (info_of a.self.now.neighbours.now) in
    let shape = a.self.now.mb_type.now in
    let refs = a.self.now.ref_idx.now in
    let upper = decodes_ok c.decode_parts.result _ _ _ c.in_ok-decode_parts.was c.decode_parts.ensures in
    let both : decoded near shape refs a.mine.now (a.first ∷ a.second ∷ []) a.mvd.now ≡ decoded near shape refs c.decode_parts.new.mine (a.second ∷ []) (drop 1 a.mvd.now) =
    decoded_before near shape refs a.mine.now c.decode_parts.new.mine (a.first ∷ []) (a.second ∷ []) a.mvd.now (omega arith) upper in
    subst (λ (d : Option (List Motion)). Decodes c.decode_parts-2.result c.decode_parts-2.new.mine d)
    (ap (λ ms. decoded near shape refs c.decode_parts.new.mine (a.second ∷ []) ms) (all_behind a.mvd.now 1 16 (omega arith)) ∙ sym both)
    c.decode_parts-2.ensures
