use Rattle.avc_mbsyntax.proofs.residual.read_luma.Goals as goal

pub returns-clause-read : goal.returns-clause-read
returns-clause-read g c = rw (c.luma_counts-left.ensures, c.luma_counts-up.ensures) at c.read_luma_blocks.ensures.read
