use Rattle.avc_syntax_tests.proofs.Following.{[], false, refl, arith}
use Rattle.avc_syntax_tests.proofs.macroblock_types.i_nxn.Goals as goal

pub returns : goal.returns
returns c = λ p n context is_p count. record {
  all = refl;
  modes_fit = (tt, (omega arith, (omega arith, (omega arith, (omega arith, (omega arith, (omega arith, (omega arith, (omega arith, (tt, (tt, (omega arith, (omega arith, (tt, (omega arith, (tt, tt))))))))))))))));
  chroma = omega arith;
  pattern = record {
    residual = c.levels.ensures.residual false [] refl refl;
    no_delta = λ none. absurd (omega (arith, none, c.levels.ensures.pattern));
  };
}
