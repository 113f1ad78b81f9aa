use Rattle.std.proofs.Common.{◌≡◌, ◌++◌, take, string_bytes}
use Rattle.std.specs.List.{flat_map}
use Rattle.avc_elements.specs.Words.{and_block}
use Rattle.avc_elements.proofs.elements.add_each.Given as goal

abbrev pub invariant-loop-levels : goal.invariant-loop-levels
invariant-loop-levels g l = record { told : string_bytes l.text ≡ string_bytes l.initial.text ++ flat_map (and_block l.facts) (take l.levels-index l.blocks) }
