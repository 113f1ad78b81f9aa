use Rattle.avc_tools.proofs.Taking.{units_waiting, string_bytes, max_unit, IsDraining, IsShown}
use Rattle.avc_tools.proofs.headers.lines_of_headers_left.Given as goal

abbrev pub invariant-loop-unit : goal.invariant-loop-unit
invariant-loop-unit g l = record { draining : IsDraining max_unit l.initial.splitter l.splitter (IsShown g.F.ListingForm.of_header l.initial.reader l.reader (string_bytes l.text)) }

abbrev pub decreases-loop-unit : goal.decreases-loop-unit
decreases-loop-unit g l = units_waiting max_unit l.splitter
