use Rattle.avc_tools.proofs.Taking.{ap, is_left_out, kept_on, not}
use Rattle.avc_tools.proofs.piece.write_not_left_out.Goals as goal

pub loop-unit-preserved : goal.loop-unit-preserved
loop-unit-preserved c = record {
  written = kept_on (λ u. not (is_left_out u)) c.args.units.now c.loop-unit.unit-index c.unit-item.result _ _ _ _ c.loop-unit-test.true c.unit-item.is (ap not c.is_left_out.ensures) c.loop-unit.invariant.written c.in_ok-write_if.ensures;
}
