use Rattle.avc_reading.proofs.Read.{asked_in, units_waiting, is_some, string_bytes, max_unit, IsDraining, IsListedSoFar}
use Rattle.avc_reading.proofs.stream.lines_of_units_left.Given as goal

abbrev pub invariant-loop-unit : goal.invariant-loop-unit
invariant-loop-unit g l = record {
  draining : IsDraining max_unit l.initial.splitter l.splitter (IsListedSoFar (asked_in g.F.MacroblockForm.form l.telling.selection) l.initial.table l.table l.initial.kept l.kept (is_some l.initial.found) (is_some l.found) (string_bytes l.text));
}

abbrev pub decreases-loop-unit : goal.decreases-loop-unit
decreases-loop-unit g l = units_waiting max_unit l.splitter
