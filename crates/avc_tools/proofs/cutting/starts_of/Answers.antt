use Rattle.avc_tools.proofs.Taking.{is_start, told_more}
use Rattle.avc_tools.proofs.cutting.starts_of.Goals as goal

pub loop-unit-preserved : goal.loop-unit-preserved
loop-unit-preserved c = record {
  told = told_more is_start c.args.units.now c.loop-unit.unit-index c.unit-item.result _ _ _ c.loop-unit-test.true c.unit-item.is c.in_ok-is_start.ensures c.loop-unit.invariant.told c.in_ok-push.ensures.items;
}
