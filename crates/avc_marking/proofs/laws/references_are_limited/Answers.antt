use Rattle.avc_marking.proofs.KeptFrames.{stays-with_max_long_term_frame_idx, is-with_max_long_term_frame_idx}
use Rattle.avc_marking.proofs.laws.references_are_limited.Goals as goal

pub returns-clause-entry : goal.returns-clause-entry
returns-clause-entry c = stays-with_max_long_term_frame_idx

pub returns-clause-history : goal.returns-clause-history
returns-clause-history c = is-with_max_long_term_frame_idx
