use Rattle.std.proofs.Common.{◌≡◌, ◌++◌, take, string_bytes}
use Rattle.std.specs.Prelude.{codes}
use Rattle.std.specs.List.{flat_map}
use Rattle.avc_selection.specs.Words.{and_motion}
use Rattle.avc_selection.proofs.words.add_vectors.Given as goal

abbrev pub invariant-loop-motion : goal.invariant-loop-motion
invariant-loop-motion l = record { told : string_bytes l.text ≡ string_bytes l.fn.text ++ codes " mv" ++ flat_map and_motion (take l.motion-index l.vectors) }
