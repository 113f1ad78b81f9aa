use Rattle.avc_inter.proofs.SixRows.{◌∙◌, ap, w16, to_z-of_z, near, back, first_is, second_is, third_is, clip1}
use Rattle.avc_inter.proofs.taps.finished.Goals as goal

pub returns : goal.returns
returns c =
    let a = c.requires.outer in
    let b = c.requires.middle in
    let t = c.quarter-a_quarter.ensures in
    let q = rw (to_z-of_z w16 _ c.ranges.inner) at c.sum_within-near.ensures in
    let u = rw (back c.sum_within-near.result q.least q.most) at c.quarter-a_sixteenth.ensures in
    let v = c.sixty_fourth.ensures in
    let d = first_is _ _ a b in
    c.clipped.ensures ∙ ap clip1 (back _ v.least v.most)
    ∙ near c.args.outer c.args.middle c.args.inner _ c.quarter-a_quarter.result _ c.sum_within-near.result c.quarter-a_sixteenth.result _ c.sixty_fourth.result
    a b c.requires.inner d t.low t.high (second_is c.args.outer _ _ _ a b d t.low t.high) q.exact q.low q.high u.low u.high
    (third_is _ _ _ c.requires.inner q.least q.most u.low u.high) v.low v.high
