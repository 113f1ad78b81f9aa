use Rattle.std.proofs.Common.{◌≡◌, take}
use Rattle.std.specs.Prelude.{map}
use Rattle.serde_json.specs.View.{view}
use Rattle.avc_info.specs.Json.{kind_data}
use Rattle.avc_info.proofs.json.kind_values.Given as goal

abbrev pub invariant-loop-kind : goal.invariant-loop-kind
invariant-loop-kind l = record { made : map view l.values.items ≡ map kind_data (take l.kind-index l.kinds) }
