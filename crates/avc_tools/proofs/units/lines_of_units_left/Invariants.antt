use Rattle.avc_tools.proofs.Taking.{◌≡◌, string_bytes, flat_map, units_waiting, line_of_unit, IsDraining}
use Rattle.avc_tools.proofs.units.lines_of_units_left.Given as goal

abbrev pub invariant-loop-unit : goal.invariant-loop-unit
invariant-loop-unit g l = record { draining : IsDraining 1 l.initial.splitter l.splitter (λ done. string_bytes l.text ≡ flat_map (line_of_unit g.F.ListingForm.of_unit) done) }

abbrev pub decreases-loop-unit : goal.decreases-loop-unit
decreases-loop-unit g l = units_waiting 1 l.splitter
