use Rattle.avc_tools.proofs.Taking.{◌≡◌, units_waiting, max_unit, IsDraining}
use Rattle.avc_tools.proofs.units.take_units_left.Given as goal

abbrev pub invariant-loop-unit : goal.invariant-loop-unit
invariant-loop-unit l = record { draining : IsDraining max_unit l.initial.parts l.parts (λ done. l.all.items ≡ done) }

abbrev pub decreases-loop-unit : goal.decreases-loop-unit
decreases-loop-unit l = units_waiting max_unit l.parts
