use Rattle.std.proofs.Common.{◌≡◌, take}
use Rattle.std.specs.Prelude.{map}
use Rattle.serde_json.specs.View.{view}
use Rattle.avc_objects.specs.Json.{level_data}
use Rattle.avc_objects.proofs.json_lists.level_values.Given as goal

abbrev pub invariant-loop-level : goal.invariant-loop-level
invariant-loop-level l = record { made : map view l.values.items ≡ map level_data (take l.level-index l.levels) }
