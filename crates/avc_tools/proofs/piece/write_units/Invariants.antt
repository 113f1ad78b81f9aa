use Rattle.avc_tools.proofs.Taking.{◌≡◌, ◌++◌, take, flat_map, written}
use Rattle.avc_tools.proofs.piece.write_units.Given as goal

abbrev pub invariant-loop-unit : goal.invariant-loop-unit
invariant-loop-unit l = record { written : l.piece.items ≡ l.initial.piece.items ++ flat_map written (take l.unit-index l.units) }
