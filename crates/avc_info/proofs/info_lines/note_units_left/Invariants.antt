use Rattle.avc_info.proofs.Noted.{units_waiting, max_unit, IsDraining, IsNoted}
use Rattle.avc_info.proofs.info_lines.note_units_left.Given as goal

abbrev pub invariant-loop-unit : goal.invariant-loop-unit
invariant-loop-unit l = record { draining : IsDraining max_unit l.initial.splitter l.splitter (IsNoted l.initial.reader l.reader l.initial.facts l.facts) }

abbrev pub decreases-loop-unit : goal.decreases-loop-unit
decreases-loop-unit l = units_waiting max_unit l.splitter
