use Rattle.avc_tools.proofs.Taking.{◌≡◌, ◌++◌, take, filter, flat_map, written, leads}
use Rattle.avc_tools.proofs.piece.write_leads.Given as goal

abbrev pub invariant-loop-unit : goal.invariant-loop-unit
invariant-loop-unit l = record { written : l.piece.items ≡ l.initial.piece.items ++ flat_map written (filter leads (take l.unit-index l.units)) }
