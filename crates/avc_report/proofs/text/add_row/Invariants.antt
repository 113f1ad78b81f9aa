use Rattle.std.proofs.Common.{◌≡◌, ◌++◌, take, string_bytes}
use Rattle.std.specs.List.{flat_map}
use Rattle.avc_report.specs.Text.{letter}
use Rattle.avc_report.proofs.text.add_row.Given as goal

abbrev pub invariant-marks : goal.invariant-marks
invariant-marks l = record { told : string_bytes l.text ≡ string_bytes l.initial.text ++ flat_map letter (take l.mark-index l.marks) }
