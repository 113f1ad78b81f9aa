use Rattle.avc_syntax_tests.proofs.Following.{arith, whole}
use Rattle.avc_syntax_tests.proofs.macroblock_types.i_16x16.Goals as goal

pub returns : goal.returns
returns c = λ p n context is_p count. record {
  mode_fits = c.requires.mode;
  chroma = omega (arith, c.requires.mode);
  luma_pattern = whole c.args.luma_coded c.levels_15.result.luma_pattern c.levels_15.ensures.pattern;
  residual = c.levels_15.ensures.residual c.block_16.result c.block_16.ensures;
}
