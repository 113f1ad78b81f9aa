use Rattle.avc_objects.proofs.Values.{one_value_more}
use Rattle.avc_objects.specs.Json.{derived_mode_data}
use Rattle.avc_objects.proofs.json_lists.derived_mode_values.Goals as goal

pub loop-mode-preserved : goal.loop-mode-preserved
loop-mode-preserved c = record {
  made =
      one_value_more derived_mode_data c.args.modes.now c.loop-mode.mode-index _ _ _ _ c.loop-mode.invariant.made
      c.loop-mode-test.true c.derived_mode_value.ensures c.in_ok-push.ensures.items;
}
