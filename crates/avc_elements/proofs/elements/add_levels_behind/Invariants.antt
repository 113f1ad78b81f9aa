use Rattle.std.proofs.Common.{◌≡◌, ◌++◌, take, string_bytes}
use Rattle.std.specs.List.{flat_map}
use Rattle.avc_elements.specs.Words.{level_behind}
use Rattle.avc_elements.proofs.elements.add_levels_behind.Given as goal

abbrev pub invariant-loop-level : goal.invariant-loop-level
invariant-loop-level l = record { told : string_bytes l.text ≡ string_bytes l.initial.text ++ flat_map level_behind (take l.level-index l.levels) }
