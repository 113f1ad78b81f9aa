use Rattle.avc_objects.proofs.Values.{one_value_more}
use Rattle.avc_objects.specs.Json.{difference_data}
use Rattle.avc_objects.proofs.json_lists.difference_values.Goals as goal

pub loop-difference-preserved : goal.loop-difference-preserved
loop-difference-preserved c = record {
  made =
      one_value_more difference_data c.args.mvd.now c.loop-difference.difference-index _ _ _ _ c.loop-difference.invariant.made
      c.loop-difference-test.true c.in_ok-difference_value.ensures c.in_ok-push.ensures.items;
}
