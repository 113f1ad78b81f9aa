use Rattle.avc_syntax_tests.proofs.Following.{refl, true}
use Rattle.avc_syntax_tests.proofs.macroblock_types.levels_15.Goals as goal

pub returns-then-luma_coded-clause-residual : goal.returns-then-luma_coded-clause-residual
returns-then-luma_coded-clause-residual c = λ dc is. c.levels.ensures.residual true dc refl is

pub returns-else-luma_coded-clause-residual : goal.returns-else-luma_coded-clause-residual
returns-else-luma_coded-clause-residual c = λ dc is. c.levels-else-luma_coded.ensures.residual true dc refl is
