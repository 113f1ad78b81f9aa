use Rattle.std.proofs.Common.{◌≡◌, take}
use Rattle.std.specs.Prelude.{map}
use Rattle.serde_json.specs.View.{view}
use Rattle.avc_objects.specs.JsonLines.{count_if_given}
use Rattle.avc_objects.proofs.json_lists.mode_values.Given as goal

abbrev pub invariant-loop-mode : goal.invariant-loop-mode
invariant-loop-mode l = record { made : map view l.values.items ≡ map count_if_given (take l.mode-index l.modes) }
