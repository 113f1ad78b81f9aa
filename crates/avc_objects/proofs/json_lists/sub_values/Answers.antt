use Rattle.avc_objects.proofs.Values.{one_value_more}
use Rattle.avc_objects.specs.Json.{sub_data}
use Rattle.avc_objects.proofs.json_lists.sub_values.Goals as goal

pub loop-sub-preserved : goal.loop-sub-preserved
loop-sub-preserved c = record {
  made =
      one_value_more sub_data c.args.subs.now c.loop-sub.sub-index _ _ _ _ c.loop-sub.invariant.made
      c.loop-sub-test.true c.in_ok-sub_value.ensures c.in_ok-push.ensures.items;
}
