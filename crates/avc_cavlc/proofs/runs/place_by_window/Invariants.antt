use Rattle.avc_cavlc.proofs.Levels.{◌≡◌, ◌+◌, ◌-◌, ◌*◌, ◌<◌, ◌≤◌, ℕ, pos, drop, get_or, length, passed, take, Bits, IsSmall, total_coeff}
use Rattle.avc_cavlc.proofs.Levels.{placed_before, placed_by_runs, IsOpen}
use Rattle.avc_bits.specs.Reader.{IsWindow}
use Rattle.avc_cavlc.proofs.runs.place_by_window.Given as goal

abbrev pub invariant-values : goal.invariant-values
invariant-values l = record {
  long : length l.block ≡ 16;
  some : l.k < l.total;
  place : l.place ≡ (l.total - l.k) + l.zeros_left;
  is_open : IsOpen l.place l.block;
  read : (b : Bits) → IsWindow l.window b → placed_by_runs 16 (take l.total l.values) l.total l.zeros (passed b l.front)
      ≡ placed_before (drop l.place l.block) (drop l.k (take l.total l.values)) (l.total - l.k) l.zeros_left (passed b l.length);
  count : total_coeff (drop l.place l.block) ≡ l.k;
  small : (i : ℕ) → IsSmall (get_or l.block i (pos 0));
  few : l.length ≤ 9 + 3 * l.k;
}

abbrev pub decreases-values : goal.decreases-values
decreases-values l = l.total - l.k
