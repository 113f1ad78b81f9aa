use Rattle.avc_tools.proofs.Taking.{◌≡◌, ◌++◌, take, flat_map, kept_bytes}
use Rattle.avc_tools.proofs.writing.write_kept.Given as goal

abbrev pub invariant-loop-unit : goal.invariant-loop-unit
invariant-loop-unit l = record { written : l.piece.items ≡ l.initial.piece.items ++ flat_map kept_bytes (take l.unit-index l.units) }
