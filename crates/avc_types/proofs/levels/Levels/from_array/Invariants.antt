use Rattle.avc_types.proofs.Frames.{◌≡◌, ◌≤◌, take, total_coeff}
use Rattle.avc_types.proofs.levels.Levels.from_array.Given as goal

abbrev pub invariant-levels : goal.invariant-levels
invariant-levels g l = record {
  count : l.count ≡ total_coeff (take l.k l.levels);
  few : l.count ≤ l.k;
}
