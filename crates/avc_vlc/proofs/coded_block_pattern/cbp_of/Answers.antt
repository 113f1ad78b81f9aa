use Rattle.avc_vlc.proofs.Entries.{intra_below, inter_below}
use Rattle.avc_vlc.proofs.coded_block_pattern.cbp_of.Goals as goal

pub returns-then-intra-clause-below : goal.returns-then-intra-clause-below
returns-then-intra-clause-below c = intra_below c.args.number c.requires

pub returns-else-intra-clause-below : goal.returns-else-intra-clause-below
returns-else-intra-clause-below c = inter_below c.args.number c.requires
