use Rattle.avc_mbsyntax.proofs.residual.read_levels.Goals as goal

pub returns-clause-range : goal.returns-clause-range
returns-clause-range g c = λ luma_dc small. record {
  luma_bits = c.requires.luma;
  chroma_bits = c.requires.chroma;
  dc = small;
  blocks = c.in_ok-read_luma.ensures.small;
  dc_of_cb = c.in_ok-read_chroma_dc.ensures.small;
  dc_of_cr = c.in_ok-read_chroma_dc-2.ensures.small;
  blocks_of_cb = c.in_ok-read_cb_ac.ensures.small;
  blocks_of_cr = c.in_ok-read_cr_ac.ensures.small;
}
