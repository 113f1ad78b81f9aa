use Rattle.std.proofs.Common.{◌≡◌, ◌≤◌, length}
use Rattle.avc_plane.specs.Spare.{count_sized, most_closed}
use Rattle.avc_plane.proofs.spare.take_closed.Given as goal

abbrev pub invariant-places : goal.invariant-places
invariant-places g l = record {
  count : count_sized l.width l.height l.closed.items ≡ count_sized l.width l.height l.initial.closed.items;
  few : length l.closed.items ≤ most_closed;
}
