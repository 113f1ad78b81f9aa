use Rattle.avc_cavlc.proofs.Levels.{◌≡◌, ◌+◌, ◌-◌, ◌<◌, ℕ, pos, drop, get_or, length, take, reader_bits, reader_bytes, IsSmall, total_coeff}
use Rattle.avc_cavlc.proofs.Levels.{placed_before, placed_others, IsOpen}
use Rattle.avc_cavlc.proofs.runs.place_runs.Given as goal

abbrev pub invariant-values : goal.invariant-values
invariant-values l = record {
  long : length l.block ≡ 16;
  some : l.k < l.total;
  place : l.place ≡ (l.total - l.k) + l.zeros_left;
  is_open : IsOpen l.place l.block;
  read : placed_others (take l.total l.values) l.total l.fn.first.count l.fn.first.zeros_left l.fn.block (reader_bits l.fn.reader)
      ≡ placed_before (drop l.place l.block) (drop l.k (take l.total l.values)) (l.total - l.k) l.zeros_left (reader_bits l.reader);
  bytes : reader_bytes l.reader ≡ reader_bytes l.fn.reader;
  count : total_coeff (drop l.place l.block) ≡ l.k;
  small : (i : ℕ) → IsSmall (get_or l.block i (pos 0));
}

abbrev pub decreases-values : goal.decreases-values
decreases-values l = l.total - l.k
