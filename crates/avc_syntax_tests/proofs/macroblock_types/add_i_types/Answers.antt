use Rattle.avc_syntax_tests.proofs.Following.{arith}
use Rattle.avc_syntax_tests.proofs.macroblock_types.add_i_types.Goals as goal

pub types-init : goal.types-init
types-init c = record {
  goes_on = λ p n first follow. c.in_ok-now.ensures.goes_on p n first (c.i_nxn.ensures p n) follow;
  more = omega (arith, c.in_ok-now.ensures.one);
}

pub types-preserved : goal.types-preserved
types-preserved c = record {
  goes_on = λ p n first follow. c.in_ok-now-2.ensures.goes_on p n first (c.i_16x16.ensures p n) (c.types.invariant.goes_on p n first follow);
  more = omega (arith, c.in_ok-now-2.ensures.one, c.types.invariant.more);
}

pub returns-clause-goes_on : goal.returns-clause-goes_on
returns-clause-goes_on c = λ p n first follow. c.in_ok-last.ensures.goes_on p n first (c.i_pcm.ensures p n) (c.types.invariant.goes_on p n first follow)
