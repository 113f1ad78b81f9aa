use Rattle.std.proofs.Common.{◌≡◌, ◌++◌, take, string_bytes}
use Rattle.std.specs.Prelude.{codes}
use Rattle.std.specs.List.{flat_map}
use Rattle.avc_elements.specs.Words.{and_mode}
use Rattle.avc_elements.proofs.elements.add_modes.Given as goal

abbrev pub invariant-loop-mode : goal.invariant-loop-mode
invariant-loop-mode l = record { told : string_bytes l.text ≡ string_bytes l.fn.text ++ codes " modes" ++ flat_map and_mode (take l.mode-index l.modes) }
