use Rattle.std.proofs.Common.{◌≡◌, ◌≤◌, take}
use Rattle.avc_elements.specs.Levels.{up_to_last}
use Rattle.avc_elements.proofs.levels.count_to_last.Given as goal

abbrev pub invariant-levels : goal.invariant-levels
invariant-levels g l = record {
  within : l.end ≤ l.k;
  done : take l.end l.levels ≡ up_to_last (take l.k l.levels);
}
