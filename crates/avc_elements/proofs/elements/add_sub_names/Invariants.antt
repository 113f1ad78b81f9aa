use Rattle.std.proofs.Common.{◌≡◌, ◌++◌, take, string_bytes}
use Rattle.std.specs.Prelude.{codes}
use Rattle.std.specs.List.{flat_map}
use Rattle.avc_elements.specs.Words.{and_sub}
use Rattle.avc_elements.proofs.elements.add_sub_names.Given as goal

abbrev pub invariant-loop-sub : goal.invariant-loop-sub
invariant-loop-sub l = record { told : string_bytes l.text ≡ string_bytes l.fn.text ++ codes " sub" ++ flat_map and_sub (take l.sub-index l.subs) }
