use Rattle.avc_mbsyntax.proofs.residual.read_cr_ac.Goals as goal

pub returns-clause-read : goal.returns-clause-read
returns-clause-read c = rw (c.cr_counts-left.ensures, c.cr_counts-up.ensures) at c.read_chroma_blocks.ensures.read
