use Rattle.avc_tools.proofs.Taking.{[], units_waiting, max_unit, IsDraining}
use Rattle.avc_tools.specs.Tail.{IsTailFrom}
use Rattle.avc_tools.proofs.tail_text.tail_units_left.Given as goal

abbrev pub invariant-loop-unit : goal.invariant-loop-unit
invariant-loop-unit l = record { draining : IsDraining max_unit l.initial.splitter l.splitter (IsTailFrom l.initial.cutter l.cutter [] l.tail.items) }

abbrev pub decreases-loop-unit : goal.decreases-loop-unit
decreases-loop-unit l = units_waiting max_unit l.splitter
