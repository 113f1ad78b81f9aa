use Rattle.avc_inter.proofs.SixRows.{◌≡◌, arith, sym, ◌∙◌, wide_of, vector_at, quarter}
use Rattle.avc_inter.proofs.luma_prediction.predict_luma.Goals as goal

pub returns-then-down-eq0 : goal.returns-then-down-eq0
returns-then-down-eq0 g c =
    let at = c.luma_place-at in
    let beyond = c.luma_fraction-right in
    let still : beyond.result.right ≡ 0 = omega arith in
    let level : beyond.result.down ≡ 0 = omega arith in
    c.predict_whole.ensures _ (λ i j. vector_at 2 (quarter (wide_of c.args.reference.now)) c.args.mv _ _ 0 0 _ _
    at.ensures.left at.ensures.top (sym still ∙ beyond.ensures.right) (sym level ∙ beyond.ensures.down) i j)
