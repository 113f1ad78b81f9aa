use Rattle.std.proofs.Common.{◌∙◌, ap}
use Rattle.avc_objects.proofs.Values.{one_value_more}
use Rattle.avc_objects.specs.Json.{block_data}
use Rattle.avc_objects.proofs.json_lists.block_values.Goals as goal

pub loop-levels-preserved : goal.loop-levels-preserved
loop-levels-preserved g c = record {
  made =
      one_value_more (block_data c.args.facts) c.args.blocks.now c.loop-levels.levels-index c.levels-item.result _ _ _ c.loop-levels.invariant.made
      c.loop-levels-test.true (c.in_ok-block_value.ensures ∙ ap (block_data c.args.facts) c.levels-item.is) c.in_ok-push.ensures.items;
}
