use Rattle.avc_objects.proofs.Values.{one_value_more}
use Rattle.avc_objects.specs.Json.{motion_data}
use Rattle.avc_objects.proofs.json_lists.motion_values.Goals as goal

pub loop-motion-preserved : goal.loop-motion-preserved
loop-motion-preserved c = record {
  made =
      one_value_more motion_data c.args.vectors.now c.loop-motion.motion-index _ _ _ _ c.loop-motion.invariant.made
      c.loop-motion-test.true c.in_ok-motion_value.ensures c.in_ok-push.ensures.items;
}
