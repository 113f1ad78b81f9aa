use Rattle.avc_intra.proofs.Predictions.{◌≡◌, ◌+◌, ◌*◌, ◌/◌, true, arith, sym, ◌∙◌, get_or-replicate, strided_same}
use Rattle.avc_intra.proofs.Predictions.{sum_above, sum_left, extended, predict4x4, sum_above_seen, sum_left_seen, mean_of_sides, near, Vertical}
use Rattle.avc_intra.proofs.Predictions.{DiagonalDownLeft, DiagonalDownRight, VerticalRight, HorizontalDown, VerticalLeft, HorizontalUp}
use Rattle.avc_intra.specs.declared.luma4x4.Mode4x4.TheVariants.{Dc}
use Rattle.avc_intra.proofs.luma4x4.lay4x4.Goals as goal

pub returns-in-Vertical-clause-samples : goal.returns-in-Vertical-clause-samples
returns-in-Vertical-clause-samples c p seen =
    let sides = c.args.sides in
    rw c.in-Vertical.is (strided_same 4 4 _ _ _ (predict4x4 sides (extended sides p) Vertical) _ _
    (c.lay_vertical.ensures p sides seen.beside (rw c.in-Vertical.is at c.requires.mode)) (λ x y column row. sym (near sides p x column)))

pub returns-in-Dc-clause-samples : goal.returns-in-Dc-clause-samples
returns-in-Dc-clause-samples c p seen =
    let sides = c.args.sides in
    let above : sides.above ≡ true → c.sum_above4-above.result ≡ sum_above p 0 =
    λ there. c.sum_above4-above.ensures.sum (seen.beside.tops there).0
    ∙ sum_above_seen p sides 4 _ _ _ seen.beside 4 (λ i. 4 * 0 + i) (λ i low. omega arith) there in
    let left : sides.left ≡ true → c.sum_left4-left.result ≡ sum_left p 0 =
    λ there. c.sum_left4-left.ensures.sum (seen.beside.lefts there).0
    ∙ sum_left_seen p sides 4 _ _ _ seen.beside 4 (λ i. 4 * 0 + i) (λ i low. omega arith) there in
    rw c.in-Dc.is (strided_same 4 4 _ _ _ (predict4x4 sides (extended sides p) Dc) _ _ c.lay_same_lines.ensures
    (λ x y column row. get_or-replicate 4 x c.mean_of_sides4-sample.result 0 column ∙ c.mean_of_sides4-sample.ensures
    ∙ mean_of_sides (λ a l. (a + l + 4) / 8) (λ a. (a + 2) / 4) (λ l. (l + 2) / 4) 128 sides.above sides.left _ _ _ _ above left))

pub returns-in-DiagonalDownLeft-clause-samples : goal.returns-in-DiagonalDownLeft-clause-samples
returns-in-DiagonalDownLeft-clause-samples c p seen =
    let around = c.read_around.ensures in
    let line = c.line_above-line.ensures p c.args.sides around.sides (around.shows p seen) in
    rw c.in-DiagonalDownLeft.is (c.lay_samples.ensures (predict4x4 c.args.sides (extended c.args.sides p) DiagonalDownLeft) (c.diagonal_down_left.ensures (extended c.args.sides p) line))

pub returns-in-DiagonalDownRight-clause-samples : goal.returns-in-DiagonalDownRight-clause-samples
returns-in-DiagonalDownRight-clause-samples c p seen =
    let around = c.read_around-in-DiagonalDownRight.ensures in
    let line = c.line_round-line.ensures p c.args.sides around.sides (around.shows p seen) in
    rw c.in-DiagonalDownRight.is (c.lay_samples-in-DiagonalDownRight.ensures (predict4x4 c.args.sides (extended c.args.sides p) DiagonalDownRight) (c.diagonal_down_right.ensures (extended c.args.sides p) line))

pub returns-in-VerticalRight-clause-samples : goal.returns-in-VerticalRight-clause-samples
returns-in-VerticalRight-clause-samples c p seen =
    let around = c.read_around-in-VerticalRight.ensures in
    let line = c.line_round-line-in-VerticalRight.ensures p c.args.sides around.sides (around.shows p seen) in
    rw c.in-VerticalRight.is (c.lay_samples-in-VerticalRight.ensures (predict4x4 c.args.sides (extended c.args.sides p) VerticalRight) (c.vertical_right.ensures (extended c.args.sides p) line))

pub returns-in-HorizontalDown-clause-samples : goal.returns-in-HorizontalDown-clause-samples
returns-in-HorizontalDown-clause-samples c p seen =
    let around = c.read_around-in-HorizontalDown.ensures in
    let line = c.line_round-line-in-HorizontalDown.ensures p c.args.sides around.sides (around.shows p seen) in
    rw c.in-HorizontalDown.is (c.lay_samples-in-HorizontalDown.ensures (predict4x4 c.args.sides (extended c.args.sides p) HorizontalDown) (c.horizontal_down.ensures (extended c.args.sides p) line))

pub returns-in-VerticalLeft-clause-samples : goal.returns-in-VerticalLeft-clause-samples
returns-in-VerticalLeft-clause-samples c p seen =
    let around = c.read_around-in-VerticalLeft.ensures in
    let line = c.line_above-line-in-VerticalLeft.ensures p c.args.sides around.sides (around.shows p seen) in
    rw c.in-VerticalLeft.is (c.lay_samples-in-VerticalLeft.ensures (predict4x4 c.args.sides (extended c.args.sides p) VerticalLeft) (c.vertical_left.ensures (extended c.args.sides p) line))

pub returns-in-HorizontalUp-clause-samples : goal.returns-in-HorizontalUp-clause-samples
returns-in-HorizontalUp-clause-samples c p seen =
    let around = c.read_around-in-HorizontalUp.ensures in
    let line = c.line_left-line.ensures p c.args.sides around.sides (around.shows p seen) in
    rw c.in-HorizontalUp.is (c.lay_samples-in-HorizontalUp.ensures (predict4x4 c.args.sides (extended c.args.sides p) HorizontalUp) (c.horizontal_up.ensures (extended c.args.sides p) line))
