use Rattle.avc_inter.proofs.SixRows.{◌≡◌, ℕ, ◌-◌, ◌<◌, ◌≤◌, pos, slice_index_or, length, taps_at}
use Rattle.avc_inter.proofs.row.six_tap_row.Given as goal

abbrev pub invariant-wide : goal.invariant-wide
invariant-wide l = record {
  within : l.at ≤ length l.dst;
  done : (k : ℕ) → k < l.at → slice_index_or l.dst k (pos 0) ≡ taps_at l.src k;
}

abbrev pub decreases-wide : goal.decreases-wide
decreases-wide l = length l.dst - l.at

abbrev pub invariant-loop-i : goal.invariant-loop-i
invariant-loop-i l = (k : ℕ) → k < l.i → slice_index_or l.dst k (pos 0) ≡ taps_at l.src k
