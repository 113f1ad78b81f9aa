use Rattle.std.proofs.Common.{◌≡◌, ◌≤◌, take}
use Rattle.std.specs.Prelude.{count_by}
use Rattle.avc_difference.specs.Differences.{is_marked}
use Rattle.avc_difference.proofs.marks.marked.Given as goal

abbrev pub invariant-marks : goal.invariant-marks
invariant-marks l = record { few : l.count ≤ l.mark-index; counted : l.count ≡ count_by is_marked (take l.mark-index l.marks) }
