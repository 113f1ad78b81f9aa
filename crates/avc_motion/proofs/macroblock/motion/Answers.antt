use Rattle.avc_motion.proofs.MacroblockMotion.{Ok, take, ◌≡◌, ◌∙◌, sym, ap, [], length, subst, MbSyntax, p_skip, p_inter, parts_of, partitions, info_of}
use Rattle.avc_motion.proofs.MacroblockMotion.{motion_near, motion_of, motion_or_fault, near_in, syntax_of, residual_of, result_map, skipped_is, inter_is}
use Rattle.avc_motion.proofs.macroblock.motion.Goals as goal

pub returns-in-PSkip-clause-motion : goal.returns-in-PSkip-clause-motion
returns-in-PSkip-clause-motion c = λ p known a around.
    let syntax : c.args.mb.now.syntax ≡ p_skip = ap (λ m. m.syntax) (sym c.mb.view_is) ∙ ap syntax_of c.in-PSkip.is in
    subst (λ (s : MbSyntax). Ok c.set_skipped.new.blocks ≡ motion_or_fault (motion_of p known a s)) (sym syntax)
    (skipped_is (near_in p known a) (motion_near (info_of c.args.neighbours.now)) around.block c.set_skipped.new.blocks c.set_skipped.ensures.motion
    c.set_skipped.ensures.within)

pub returns-in-PInter-clause-motion : goal.returns-in-PInter-clause-motion
returns-in-PInter-clause-motion c = λ p known a around.
    let i = c.in-PInter in
    let syntax : c.args.mb.now.syntax
    ≡ p_inter i.mb_type (take (partitions i.mb_type) i.ref_idx) (take (length (parts_of i.mb_type)) i.mvd) (residual_of [] i.levels)
    = ap (λ m. m.syntax) (sym c.mb.view_is) ∙ ap syntax_of i.is in
    let blocks = result_map (λ _. c.set_inter.new.blocks) c.set_inter.result in
    subst (λ (s : MbSyntax). blocks ≡ motion_or_fault (motion_of p known a s)) (sym syntax)
    (inter_is (near_in p known a) (motion_near (info_of c.args.neighbours.now)) around.block i.mb_type c.set_inter.ensures.quarters i.ref_idx i.mvd
    (residual_of [] i.levels) blocks c.set_inter.ensures.motion)
