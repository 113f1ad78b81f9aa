use Rattle.std.proofs.Common.{◌≡◌, take}
use Rattle.std.specs.Prelude.{map}
use Rattle.serde_json.specs.View.{view}
use Rattle.avc_objects.specs.Json.{sub_data}
use Rattle.avc_objects.proofs.json_lists.sub_values.Given as goal

abbrev pub invariant-loop-sub : goal.invariant-loop-sub
invariant-loop-sub l = record { made : map view l.values.items ≡ map sub_data (take l.sub-index l.subs) }
