use Rattle.std.proofs.Common.{◌≡◌, take}
use Rattle.std.specs.Prelude.{map}
use Rattle.serde_json.specs.View.{view}
use Rattle.avc_objects.specs.Json.{motion_data}
use Rattle.avc_objects.proofs.json_lists.motion_values.Given as goal

abbrev pub invariant-loop-motion : goal.invariant-loop-motion
invariant-loop-motion l = record { made : map view l.values.items ≡ map motion_data (take l.motion-index l.vectors) }
