use Rattle.avc_cavlc.proofs.Levels.{◌≡◌, ◌+◌, ◌-◌, ◌++◌, ℕ, pos, drop, get_or, length, take, reverse, IsSmall, total_coeff}
use Rattle.avc_cavlc.proofs.runs.place_others.Given as goal

abbrev pub invariant-values : goal.invariant-values
invariant-values l = record {
  long : length l.block ≡ 16;
  place : l.place ≡ (l.total - l.k) + l.zeros;
  front : take l.zeros l.block ≡ take l.zeros l.fn.block;
  behind : reverse (drop l.k (take l.total l.values)) ++ drop l.place l.block ≡ reverse (drop l.first (take l.total l.values)) ++ drop (l.total - l.first + l.zeros) l.fn.block;
  count : total_coeff (drop l.place l.block) + (l.total - l.k) ≡ total_coeff (drop (l.total - l.first + l.zeros) l.fn.block) + (l.total - l.first);
  small : (i : ℕ) → IsSmall (get_or l.block i (pos 0));
}
