use Rattle.std.proofs.Common.{◌-◌, ◌≤◌}
use Rattle.avc_reading.proofs.position.SearchedSlice.least_bits.Given as goal

abbrev pub invariant-halves : goal.invariant-halves
invariant-halves l = record { ordered : l.few ≤ l.enough }

abbrev pub decreases-halves : goal.decreases-halves
decreases-halves l = l.enough - l.few
