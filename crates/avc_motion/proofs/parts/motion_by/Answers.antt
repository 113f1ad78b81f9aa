use Rattle.avc_motion.proofs.MacroblockMotion.{rules, sym, ◌∙◌, w16, w32, to_z-of_z, both_fit, x_too_far}
use Rattle.avc_motion.proofs.parts.motion_by.Goals as goal

pub returns-in-Some-Some : goal.returns-in-Some-Some
returns-in-Some-Some c =
    let u = c.args.predicted in
    let d = c.args.mvd in
    rw (c.from.ensures)
    (both_fit c.args.ref_idx u d c.in-Some-Some.x c.in-Some-Some.y _ _ _ _
    (to_z-of_z w16 u.x (search rules)) (to_z-of_z w32 d.x (search rules)) (to_z-of_z w16 u.y (search rules)) (to_z-of_z w32 d.y (search rules))
    (search rules) (search rules)
    (sym c.in-Some-Some.is-0 ∙ c.sum.ensures) (sym c.in-Some-Some.is-1 ∙ c.sum-2.ensures))

pub returns-in_default-2 : goal.returns-in_default-2
returns-in_default-2 c =
    let u = c.args.predicted in
    let d = c.args.mvd in
    x_too_far c.args.ref_idx u d _ _ (to_z-of_z w16 u.x (search rules)) (to_z-of_z w32 d.x (search rules)) (sym c.in_default.is-0 ∙ c.sum.ensures)
