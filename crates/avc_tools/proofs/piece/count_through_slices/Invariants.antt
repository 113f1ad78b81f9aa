use Rattle.avc_tools.proofs.Taking.{◌≡◌, ◌≤◌, length, take, through_slices}
use Rattle.avc_tools.proofs.piece.count_through_slices.Given as goal

abbrev pub invariant-slices : goal.invariant-slices
invariant-slices l = record {
  within : l.count ≤ length l.units;
  same : through_slices (take l.count l.units) ≡ through_slices l.units;
}

abbrev pub decreases-slices : goal.decreases-slices
decreases-slices l = l.count
