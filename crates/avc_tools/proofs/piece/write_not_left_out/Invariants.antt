use Rattle.avc_tools.proofs.Taking.{◌≡◌, ◌++◌, take, not, filter, flat_map, written, is_left_out}
use Rattle.avc_tools.proofs.piece.write_not_left_out.Given as goal

abbrev pub invariant-loop-unit : goal.invariant-loop-unit
invariant-loop-unit l = record { written : l.piece.items ≡ l.initial.piece.items ++ flat_map written (filter (λ u. not (is_left_out u)) (take l.unit-index l.units)) }
