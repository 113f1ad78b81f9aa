use Rattle.avc_inter.proofs.SixRows.{◌∙◌, ◌+ℤ◌, ap, clip1, pos, six_taps, back, of_twice}
use Rattle.avc_inter.proofs.taps.half_of_wide.Goals as goal

pub returns : goal.returns
returns c =
    let a = c.args in
    let t = c.twice_rounded_of_wide.ensures in
    let v = c.sixty_fourth.ensures in
    c.clipped.ensures ∙ ap clip1 (back _ v.least v.most ∙ of_twice c.twice_rounded_of_wide.result c.sixty_fourth.result
    (six_taps (pos a.e) (pos a.f) (pos a.g) (pos a.h) (pos a.i) (pos a.j) +ℤ pos 16) t.low t.high t.value v.low v.high)
