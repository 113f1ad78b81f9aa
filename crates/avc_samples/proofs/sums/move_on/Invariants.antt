use Rattle.avc_samples.proofs.Places.{◌≡◌, ◌<◌, ◌≤◌, ◌+◌, ◌*◌, ℕ, slice_index_or, pos}
use Rattle.avc_samples.proofs.sums.move_on.Given as goal

abbrev pub invariant-loop-row : goal.invariant-loop-row
invariant-loop-row g l = record {
  moved : (k : ℕ) → k < 16 * l.row → slice_index_or l.window k (pos 0) ≡ slice_index_or l.fn.window (16 + k) (pos 0);
  left : (k : ℕ) → 16 * l.row ≤ k → slice_index_or l.window k (pos 0) ≡ slice_index_or l.fn.window k (pos 0);
}
