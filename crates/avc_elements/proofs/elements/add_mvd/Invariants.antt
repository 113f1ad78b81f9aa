use Rattle.std.proofs.Common.{◌≡◌, ◌++◌, take, string_bytes}
use Rattle.std.specs.Prelude.{codes}
use Rattle.std.specs.List.{flat_map}
use Rattle.avc_elements.specs.Words.{and_mvd}
use Rattle.avc_elements.proofs.elements.add_mvd.Given as goal

abbrev pub invariant-loop-difference : goal.invariant-loop-difference
invariant-loop-difference l = record { told : string_bytes l.text ≡ string_bytes l.fn.text ++ codes " mvd" ++ flat_map and_mvd (take l.difference-index l.mvd) }
