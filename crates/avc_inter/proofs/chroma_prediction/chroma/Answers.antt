use Rattle.avc_inter.proofs.SixRows.{◌+ℤ◌, pos, ◌≡◌, arith, sym, ◌∙◌, wide_of, vector_at, bilinear, block_of_same, whole_at}
use Rattle.avc_inter.proofs.chroma_prediction.chroma.Goals as goal

pub returns-then-beyond-eq0-2 : goal.returns-then-beyond-eq0-2
returns-then-beyond-eq0-2 g c =
    let at = c.chroma_place-at in
    let beyond = c.chroma_fraction-beyond in
    let still : beyond.result.right ≡ 0 = omega arith in
    let level : beyond.result.down ≡ 0 = omega arith in
    c.set_whole.ensures ∙ block_of_same g.row.W g.row.H _ _ (λ i j column row. whole_at (wide_of c.args.reference.now) (at.result.left +ℤ pos i) (at.result.top +ℤ pos j)
    ∙ vector_at 3 (bilinear (wide_of c.args.reference.now)) c.args.mv _ _ 0 0 _ _
    at.ensures.left at.ensures.top (sym still ∙ beyond.ensures.right) (sym level ∙ beyond.ensures.down) i j)

pub returns-else-beyond-eq0 : goal.returns-else-beyond-eq0
returns-else-beyond-eq0 g c =
    let at = c.chroma_place-at.ensures in
    let beyond = c.chroma_fraction-beyond.ensures in
    c.set_between.ensures ∙ block_of_same g.row.W g.row.H _ _ (λ i j column row. vector_at 3 (bilinear (wide_of c.args.reference.now)) c.args.mv _ _ _ _ _ _
    at.left at.top beyond.right beyond.down i j)
