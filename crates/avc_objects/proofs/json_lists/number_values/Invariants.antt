use Rattle.std.proofs.Common.{◌≡◌, take}
use Rattle.std.specs.Prelude.{map}
use Rattle.serde_json.specs.View.{view}
use Rattle.avc_objects.specs.JsonLines.{count}
use Rattle.avc_objects.proofs.json_lists.number_values.Given as goal

abbrev pub invariant-loop-number : goal.invariant-loop-number
invariant-loop-number l = record { made : map view l.values.items ≡ map count (take l.number-index l.numbers) }
