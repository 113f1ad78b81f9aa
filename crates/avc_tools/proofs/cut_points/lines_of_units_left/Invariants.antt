use Rattle.avc_tools.proofs.Taking.{units_waiting, string_bytes, max_unit, IsDraining, IsCounted}
use Rattle.avc_tools.proofs.cut_points.lines_of_units_left.Given as goal

abbrev pub invariant-loop-unit : goal.invariant-loop-unit
invariant-loop-unit g l = record { draining : IsDraining max_unit l.initial.splitter l.splitter (IsCounted g.F.ListingForm.of_piece l.initial.counts l.counts (string_bytes l.text)) }

abbrev pub decreases-loop-unit : goal.decreases-loop-unit
decreases-loop-unit g l = units_waiting max_unit l.splitter
