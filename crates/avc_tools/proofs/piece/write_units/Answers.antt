use Rattle.avc_tools.proofs.Taking.{written, written_more}
use Rattle.avc_tools.proofs.piece.write_units.Goals as goal

pub loop-unit-preserved : goal.loop-unit-preserved
loop-unit-preserved c = record {
  written = written_more written c.args.units.now c.loop-unit.unit-index c.unit-item.result _ _ _ c.loop-unit-test.true c.unit-item.is c.loop-unit.invariant.written c.in_ok-write_unit.ensures;
}
