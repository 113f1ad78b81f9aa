use Rattle.std.proofs.Common.{◌≡◌, take}
use Rattle.std.specs.Prelude.{map}
use Rattle.serde_json.specs.View.{view}
use Rattle.avc_info.specs.Json.{size_data}
use Rattle.avc_info.proofs.json.size_values.Given as goal

abbrev pub invariant-loop-size : goal.invariant-loop-size
invariant-loop-size l = record { made : map view l.values.items ≡ map size_data (take l.size-index l.sizes) }
