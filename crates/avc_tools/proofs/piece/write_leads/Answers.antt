use Rattle.avc_tools.proofs.Taking.{kept_on, leads}
use Rattle.avc_tools.proofs.piece.write_leads.Goals as goal

pub loop-unit-preserved : goal.loop-unit-preserved
loop-unit-preserved c = record {
  written = kept_on leads c.args.units.now c.loop-unit.unit-index c.unit-item.result _ _ _ _ c.loop-unit-test.true c.unit-item.is c.leads.ensures c.loop-unit.invariant.written c.in_ok-write_if.ensures;
}
