use Rattle.avc_sequence.proofs.Fractions.{lowest_is}
use Rattle.avc_sequence.proofs.rates.lowest.Goals as goal

pub returns : goal.returns
returns c = lowest_is _ _ _ c.requires c.lowest_terms.ensures
