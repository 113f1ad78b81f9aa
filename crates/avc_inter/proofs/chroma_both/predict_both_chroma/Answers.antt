use Rattle.avc_inter.proofs.SixRows.{◌+ℤ◌, pos, ◌≡◌, arith, sym, ◌∙◌, wide_of, vector_at, bilinear, whole_at}
use Rattle.avc_inter.proofs.chroma_both.predict_both_chroma.Goals as goal

pub returns-then-beyond-eq0-2-clause-cb : goal.returns-then-beyond-eq0-2-clause-cb
returns-then-beyond-eq0-2-clause-cb g c =
    let at = c.chroma_place-at in
    let beyond = c.chroma_fraction-beyond in
    let still : beyond.result.right ≡ 0 = omega arith in
    let level : beyond.result.down ≡ 0 = omega arith in
    c.predict_whole.ensures _ (λ i j. whole_at (wide_of c.args.from_cb.now) (at.result.left +ℤ pos i) (at.result.top +ℤ pos j)
    ∙ vector_at 3 (bilinear (wide_of c.args.from_cb.now)) c.args.mv _ _ 0 0 _ _
    at.ensures.left at.ensures.top (sym still ∙ beyond.ensures.right) (sym level ∙ beyond.ensures.down) i j)

pub returns-then-beyond-eq0-2-clause-cr : goal.returns-then-beyond-eq0-2-clause-cr
returns-then-beyond-eq0-2-clause-cr g c =
    let at = c.chroma_place-at in
    let beyond = c.chroma_fraction-beyond in
    let still : beyond.result.right ≡ 0 = omega arith in
    let level : beyond.result.down ≡ 0 = omega arith in
    c.predict_whole-then-beyond-eq0-2.ensures _ (λ i j. whole_at (wide_of c.args.from_cr.now) (at.result.left +ℤ pos i) (at.result.top +ℤ pos j)
    ∙ vector_at 3 (bilinear (wide_of c.args.from_cr.now)) c.args.mv _ _ 0 0 _ _
    at.ensures.left at.ensures.top (sym still ∙ beyond.ensures.right) (sym level ∙ beyond.ensures.down) i j)
