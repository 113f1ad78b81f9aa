use Rattle.avc_tools.proofs.Taking.{◌≡◌, None, replicate}
use Rattle.avc_tools.proofs.sets_in_force.no_units.Given as goal

abbrev pub invariant-loop-id : goal.invariant-loop-id
invariant-loop-id l = record { none : l.units.items ≡ replicate l._id None }
