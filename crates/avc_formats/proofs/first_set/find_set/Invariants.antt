use Rattle.avc_formats.proofs.Fronts.{units_waiting, IsDraining, max_unit, ArePassed}
use Rattle.avc_formats.proofs.first_set.find_set.Given as goal

abbrev pub invariant-loop-unit : goal.invariant-loop-unit
invariant-loop-unit l = record { draining : IsDraining max_unit l.initial.splitter l.splitter (ArePassed l.initial.reader l.reader) }

abbrev pub decreases-loop-unit : goal.decreases-loop-unit
decreases-loop-unit l = units_waiting max_unit l.splitter
