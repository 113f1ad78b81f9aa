use Rattle.avc_sequence.proofs.Found.{units_waiting, max_unit, IsDraining, IsNoted}
use Rattle.avc_sequence.proofs.finder.note_units_left.Given as goal

abbrev pub invariant-loop-unit : goal.invariant-loop-unit
invariant-loop-unit l = record { draining : IsDraining max_unit l.initial.splitter l.splitter (IsNoted l.initial.reader l.reader l.initial.said l.said) }

abbrev pub decreases-loop-unit : goal.decreases-loop-unit
decreases-loop-unit l = units_waiting max_unit l.splitter
