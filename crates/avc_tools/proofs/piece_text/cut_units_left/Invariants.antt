use Rattle.avc_tools.proofs.Taking.{units_waiting, max_unit, IsDraining, IsCutFrom}
use Rattle.avc_tools.proofs.piece_text.cut_units_left.Given as goal

abbrev pub invariant-loop-unit : goal.invariant-loop-unit
invariant-loop-unit l = record { draining : IsDraining max_unit l.initial.splitter l.splitter (IsCutFrom l.initial.cutter l.cutter l.piece.items) }

abbrev pub decreases-loop-unit : goal.decreases-loop-unit
decreases-loop-unit l = units_waiting max_unit l.splitter
