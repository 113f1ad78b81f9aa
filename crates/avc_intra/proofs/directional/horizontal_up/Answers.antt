use Rattle.avc_intra.proofs.Predictions.{mean_of_two-same, mean_of_three-same}
use Rattle.avc_intra.proofs.directional.horizontal_up.Goals as goal

pub returns : goal.returns
returns c p e = simp (c.pairs-p.ensures, c.triples-t.ensures, e, mean_of_two-same, mean_of_three-same)
