use Rattle.avc_tools.proofs.Taking.{◌≡◌, map, take, is_start}
use Rattle.avc_tools.proofs.cutting.starts_of.Given as goal

abbrev pub invariant-loop-unit : goal.invariant-loop-unit
invariant-loop-unit l = record { told : l.starts.items ≡ map is_start (take l.unit-index l.units) }
