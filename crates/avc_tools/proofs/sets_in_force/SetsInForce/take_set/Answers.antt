use Rattle.avc_tools.proofs.Taking.{Some, ap, ◌∙◌, no_pps, no_sps}
use Rattle.avc_tools.proofs.sets_in_force.SetsInForce.take_set.Goals as goal

pub returns-in-OfSequence-clause-pps : goal.returns-in-OfSequence-clause-pps
returns-in-OfSequence-clause-pps c = no_pps _ _ _ _ (c.requires ∙ ap Some c.in-OfSequence.is)

pub returns-in-OfPicture-clause-sps : goal.returns-in-OfPicture-clause-sps
returns-in-OfPicture-clause-sps c = no_sps _ _ _ _ (c.requires ∙ ap Some c.in-OfPicture.is)
