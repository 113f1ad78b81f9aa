use Rattle.avc_intra.proofs.Predictions.{predict_dc_chroma}
use Rattle.avc_intra.proofs.chroma.AroundChroma.dc_row.Goals as goal

pub returns : goal.returns
returns c p shows = c.row_of_two.ensures (λ u. predict_dc_chroma c.args.self.now.sides p u c.args.row) (c.dc.ensures p shows) (c.dc-2.ensures p shows)
