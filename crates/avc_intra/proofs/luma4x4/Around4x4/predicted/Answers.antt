use Rattle.avc_intra.proofs.Predictions.{refl, extended}
use Rattle.avc_intra.proofs.luma4x4.Around4x4.predicted.Goals as goal

pub returns-in-DiagonalDownLeft : goal.returns-in-DiagonalDownLeft
returns-in-DiagonalDownLeft c p shows =
    rw c.in-DiagonalDownLeft.is (c.diagonal_down_left.ensures (extended c.args.self.now.sides p) (c.line_above.ensures p c.args.self.now.sides refl shows))

pub returns-in-VerticalLeft : goal.returns-in-VerticalLeft
returns-in-VerticalLeft c p shows =
    rw c.in-VerticalLeft.is (c.vertical_left.ensures (extended c.args.self.now.sides p) (c.line_above-in-VerticalLeft.ensures p c.args.self.now.sides refl shows))
