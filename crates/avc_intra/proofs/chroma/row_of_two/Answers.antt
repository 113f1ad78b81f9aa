use Rattle.avc_intra.proofs.Predictions.{row_of_two}
use Rattle.avc_intra.proofs.chroma.row_of_two.Goals as goal

pub returns : goal.returns
returns c f left right x column = row_of_two f c.args.left c.args.right left right x column
