use Rattle.avc_objects.proofs.Values.{one_value_more}
use Rattle.avc_objects.specs.JsonLines.{count}
use Rattle.avc_objects.proofs.json_lists.number_values.Goals as goal

pub loop-number-preserved : goal.loop-number-preserved
loop-number-preserved c = record {
  made =
      one_value_more count c.args.numbers.now c.loop-number.number-index _ _ _ _ c.loop-number.invariant.made
      c.loop-number-test.true c.from.ensures c.in_ok-push.ensures.items;
}
