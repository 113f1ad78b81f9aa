use Rattle.std.proofs.Common.{◌≡◌, take}
use Rattle.std.specs.Prelude.{map}
use Rattle.serde_json.specs.View.{view}
use Rattle.avc_objects.specs.Json.{block_data}
use Rattle.avc_objects.proofs.json_lists.block_values.Given as goal

abbrev pub invariant-loop-levels : goal.invariant-loop-levels
invariant-loop-levels g l = record { made : map view l.values.items ≡ map (block_data l.facts) (take l.levels-index l.blocks) }
