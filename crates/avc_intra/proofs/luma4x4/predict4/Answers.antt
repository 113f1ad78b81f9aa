use Rattle.avc_intra.proofs.Predictions.{rules, can_predict4x4, extended, predict4x4, block4x4_at}
use Rattle.avc_intra.proofs.luma4x4.predict4.Goals as goal

pub returns : goal.returns
returns c p shows =
    let sides = c.args.around.now.sides in
    let mode = c.args.mode in
    block4x4_at (can_predict4x4 sides mode) (predict4x4 sides (extended sides p) mode) c.predicted.result (search rules) (c.predicted.ensures p shows)
