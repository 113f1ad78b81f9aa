use Rattle.std.proofs.Common.{◌≡◌, ◌++◌, take, string_bytes}
use Rattle.std.specs.Prelude.{codes}
use Rattle.std.specs.List.{flat_map}
use Rattle.avc_tools.specs.Lines.{and_number}
use Rattle.avc_elements.proofs.elements.add_ref_idx.Given as goal

abbrev pub invariant-loop-index : goal.invariant-loop-index
invariant-loop-index l = record { told : string_bytes l.text ≡ string_bytes l.fn.text ++ codes " ref" ++ flat_map and_number (take l.index-index l.ref_idx) }
