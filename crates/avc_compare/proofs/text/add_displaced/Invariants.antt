use Rattle.std.proofs.Common.{◌≡◌, ◌++◌, take, string_bytes}
use Rattle.std.specs.List.{flat_map}
use Rattle.avc_compare.specs.Told.{displaced_line}
use Rattle.avc_compare.proofs.text.add_displaced.Given as goal

abbrev pub invariant-pictures : goal.invariant-pictures
invariant-pictures l = record { told : string_bytes l.text ≡ string_bytes l.initial.text ++ flat_map displaced_line (take l.picture-index l.pictures) }
