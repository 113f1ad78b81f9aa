use Rattle.avc_intra.proofs.Predictions.{◌≡◌, ◌+◌, ◌/◌, true, pos, ◌∙◌, sum_below, top, left_of, get_or-replicate, strided_same, predict16x16}
use Rattle.avc_intra.proofs.Predictions.{sum_above_seen, sum_left_seen, mean_of_sides}
use Rattle.avc_intra.specs.declared.luma16x16.Mode16x16.TheVariants.{Dc}
use Rattle.avc_intra.proofs.luma16x16.lay16x16.Goals as goal

pub returns-in-Dc-clause-samples : goal.returns-in-Dc-clause-samples
returns-in-Dc-clause-samples c p seen =
    let sides = c.args.sides in
    let above : sides.above ≡ true → c.sum_above16-above.result ≡ sum_below 16 (λ i. top p (pos i)) =
    λ there. c.sum_above16-above.ensures.sum (seen.tops there).0 ∙ sum_above_seen p sides 16 _ _ _ seen 16 (λ i. i) (λ i low. low) there in
    let left : sides.left ≡ true → c.sum_left16-left.result ≡ sum_below 16 (λ i. left_of p (pos i)) =
    λ there. c.sum_left16-left.ensures.sum (seen.lefts there).0 ∙ sum_left_seen p sides 16 _ _ _ seen 16 (λ i. i) (λ i low. low) there in
    rw c.in-Dc.is (strided_same 16 16 _ _ _ (predict16x16 sides p Dc) _ _ c.lay_same_lines.ensures
    (λ x y column row. get_or-replicate 16 x c.mean_of_sides16-sample.result 0 column ∙ c.mean_of_sides16-sample.ensures
    ∙ mean_of_sides (λ a l. (a + l + 16) / 32) (λ a. (a + 8) / 16) (λ l. (l + 8) / 16) 128 sides.above sides.left _ _ _ _ above left))
