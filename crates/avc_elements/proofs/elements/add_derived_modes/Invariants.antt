use Rattle.std.proofs.Common.{◌≡◌, ◌++◌, take, string_bytes}
use Rattle.std.specs.Prelude.{codes}
use Rattle.std.specs.List.{flat_map}
use Rattle.avc_elements.specs.Words.{and_derived_mode}
use Rattle.avc_elements.proofs.elements.add_derived_modes.Given as goal

abbrev pub invariant-loop-mode : goal.invariant-loop-mode
invariant-loop-mode l = record { told : string_bytes l.text ≡ string_bytes l.fn.text ++ codes " intra4x4" ++ flat_map and_derived_mode (take l.mode-index l.modes) }
