use Rattle.avc_picture_core.proofs.InterTiles.{◌≡◌, ℕ, ◌<◌, true, slice_index_or, absent, can_predict4x4, mode4x4_of, mode_number, readable_sides}
use Rattle.avc_picture_core.proofs.luma4x4.has_sides4x4.Given as goal

abbrev pub invariant-loop-k : goal.invariant-loop-k
invariant-loop-k l = record {
  done : (j : ℕ) → j < l.k → can_predict4x4 (readable_sides l.readable j) (mode4x4_of (mode_number (slice_index_or l.modes.in_order.now j absent))) ≡ true;
}
