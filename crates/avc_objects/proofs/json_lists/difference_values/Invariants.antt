use Rattle.std.proofs.Common.{◌≡◌, take}
use Rattle.std.specs.Prelude.{map}
use Rattle.serde_json.specs.View.{view}
use Rattle.avc_objects.specs.Json.{difference_data}
use Rattle.avc_objects.proofs.json_lists.difference_values.Given as goal

abbrev pub invariant-loop-difference : goal.invariant-loop-difference
invariant-loop-difference l = record { made : map view l.values.items ≡ map difference_data (take l.difference-index l.mvd) }
