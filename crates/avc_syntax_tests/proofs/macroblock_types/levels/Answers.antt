use Rattle.avc_syntax_tests.proofs.Following.{arith, subst, ints, AreBlocks, range_with_len, is_coded}
use Rattle.avc_syntax_tests.proofs.macroblock_types.levels.Goals as goal

pub returns-clause-residual : goal.returns-clause-residual
returns-clause-residual g c = λ with_dc dc is is_dc. record {
  luma_pattern = c.requires.luma_pattern;
  chroma_pattern = c.requires.chroma_pattern;
  least = omega (arith, ints, c.requires.least, c.requires.most);
  most = omega (arith, ints, c.requires.least, c.requires.most);
  luma_dc = is_dc;
  luma = subst (λ n. AreBlocks n (is_coded c.args.luma_pattern) (range_with_len 0 16) c.args.luma) is c.requires.luma;
  cb_dc = c.chroma_dc.ensures;
  cr_dc = c.chroma_dc-2.ensures;
  cb_ac = c.chroma_ac.ensures;
  cr_ac = c.chroma_ac-2.ensures;
}
