use Rattle.avc_inter.proofs.SixRows.{◌≡◌, arith, sym, ◌∙◌, wide_of, vector_at, quarter, block_of_same}
use Rattle.avc_inter.proofs.luma_prediction.luma.Goals as goal

pub returns-then-beyond-eq0-2 : goal.returns-then-beyond-eq0-2
returns-then-beyond-eq0-2 g c =
    let at = c.luma_place-at in
    let beyond = c.luma_fraction-beyond in
    let still : beyond.result.right ≡ 0 = omega arith in
    let level : beyond.result.down ≡ 0 = omega arith in
    c.set_whole.ensures ∙ block_of_same g.row.W g.row.H _ _ (λ i j column row. vector_at 2 (quarter (wide_of c.args.reference.now)) c.args.mv _ _ 0 0 _ _
    at.ensures.left at.ensures.top (sym still ∙ beyond.ensures.right) (sym level ∙ beyond.ensures.down) i j)

pub returns-then-this-le8 : goal.returns-then-this-le8
returns-then-this-le8 g c =
    let at = c.luma_place-at.ensures in
    let beyond = c.luma_fraction-beyond.ensures in
    c.set_between.ensures ∙ block_of_same g.row.W g.row.H _ _ (λ i j column row. vector_at 2 (quarter (wide_of c.args.reference.now)) c.args.mv _ _ _ _ _ _
    at.left at.top beyond.right beyond.down i j)

pub returns-else-this-le8 : goal.returns-else-this-le8
returns-else-this-le8 g c =
    let at = c.luma_place-at.ensures in
    let beyond = c.luma_fraction-beyond.ensures in
    c.set_between-else-this-le8.ensures ∙ block_of_same g.row.W g.row.H _ _ (λ i j column row. vector_at 2 (quarter (wide_of c.args.reference.now)) c.args.mv _ _ _ _ _ _
    at.left at.top beyond.right beyond.down i j)
