use Rattle.avc_mbsyntax.proofs.residual.read_cb_ac.Goals as goal

pub returns-clause-read : goal.returns-clause-read
returns-clause-read c = rw (c.cb_counts-left.ensures, c.cb_counts-up.ensures) at c.read_chroma_blocks.ensures.read
