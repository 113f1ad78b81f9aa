use Rattle.avc_inter.proofs.SixRows.{◌+ℤ◌, pos, ◌≡◌, arith, sym, ◌∙◌, wide_of, vector_at, bilinear, whole_at}
use Rattle.avc_inter.proofs.chroma_prediction.predict_chroma.Goals as goal

pub returns-then-beyond-eq0-2 : goal.returns-then-beyond-eq0-2
returns-then-beyond-eq0-2 g c =
    let at = c.chroma_place-at in
    let beyond = c.chroma_fraction-beyond in
    let still : beyond.result.right ≡ 0 = omega arith in
    let level : beyond.result.down ≡ 0 = omega arith in
    c.predict_whole.ensures _ (λ i j. whole_at (wide_of c.args.reference.now) (at.result.left +ℤ pos i) (at.result.top +ℤ pos j)
    ∙ vector_at 3 (bilinear (wide_of c.args.reference.now)) c.args.mv _ _ 0 0 _ _
    at.ensures.left at.ensures.top (sym still ∙ beyond.ensures.right) (sym level ∙ beyond.ensures.down) i j)
