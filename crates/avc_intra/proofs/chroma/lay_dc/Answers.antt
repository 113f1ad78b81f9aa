use Rattle.avc_intra.proofs.Predictions.{◌≡◌, ℕ, ◌+◌, ◌*◌, ◌/◌, ◌<◌, true, arith, slice_index, ap, subst, ◌∙◌, IsStridedSet, strided_more, strided_same}
use Rattle.avc_intra.proofs.Predictions.{predict_dc_chroma, sum_above_seen, sum_left_seen}
use Rattle.avc_intra.proofs.chroma.lay_dc.Goals as goal

pub returns : goal.returns
returns c p seen =
    let first = c.args.at.first in
    let stride = c.args.at.stride in
    let sides = c.args.sides in
    let rows = c.args.rows.now in
    let f : ℕ → ℕ → ℕ = λ x y. predict_dc_chroma sides p (x / 4) (y / 4) in
    let row = c.row_of_two-lower.result in
    let below : first + 4 * stride ≡ first + 1 * (4 * stride) = omega arith in
    let above = λ (u : ℕ) (few : u < 2). sum_above_seen p sides 8 first stride rows seen 4 (λ i. 4 * u + i) (λ i low. omega arith) in
    let left = λ (v : ℕ) (few : v < 2). sum_left_seen p sides 8 first stride rows seen 4 (λ i. 4 * v + i) (λ i low. omega arith) in
    let above_0 = λ (there : sides.above ≡ true). c.sum_above4.ensures.sum (seen.tops there).0 ∙ above 0 (omega arith) there in
    let above_1 = λ (there : sides.above ≡ true). c.sum_above4-2.ensures.sum (seen.tops there).0 ∙ above 1 (omega arith) there in
    let left_0 = λ (there : sides.left ≡ true). c.sum_left4.ensures.sum (seen.lefts there).0 ∙ left 0 (omega arith) there in
    let left_1 = λ (there : sides.left ≡ true). c.sum_left4-2.ensures.sum (seen.lefts there).0 ∙ left 1 (omega arith) there in
    let in_upper = c.row_of_two-upper.ensures (λ u. predict_dc_chroma sides p u 0) (c.dc_of_block.ensures p above_0 left_0) (c.dc_of_block-2.ensures p above_1 left_0) in
    let in_lower = c.row_of_two-lower.ensures (λ u. predict_dc_chroma sides p u 1) (c.dc_of_block-3.ensures p above_0 left_1) (c.dc_of_block-4.ensures p above_1 left_1) in
    strided_more 8 4 1 first stride f (λ x y. slice_index row x) rows _ _ c.requires.apart
    (strided_same 8 4 _ _ _ f _ _ c.lay_same_lines.ensures (λ x y column row. in_upper x column ∙ ap (λ v. predict_dc_chroma sides p (x / 4) v) (omega arith)))
    (subst (λ n. IsStridedSet 8 4 n stride (λ x y. slice_index row x) c.lay_same_lines.new.rows c.lay_same_lines-2.new.rows) below c.lay_same_lines-2.ensures)
    (λ r x row column. in_lower x column ∙ ap (λ v. predict_dc_chroma sides p (x / 4) v) (omega arith))
