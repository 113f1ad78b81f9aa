use Rattle.avc_decoder.proofs.Events.{no_more, one_more}
use Rattle.avc_decoder.proofs.parts.handle_units.Goals as goal

pub loop-unit-preserved : goal.loop-unit-preserved
loop-unit-preserved g c = record {
  left =
      rw c.take_back.ensures
      (one_more c.loop-unit.invariant.left c.in-Some.ensures.unit c.in-Some.ensures.taken c.in_ok-unit.ensures.state);
  works = c.in_ok-unit.ensures.works;
}

pub returns-clause-handles : goal.returns-clause-handles
returns-clause-handles g c = no_more c.loop-unit.invariant.left c.in_default.ensures.unit c.in_default.ensures.taken
