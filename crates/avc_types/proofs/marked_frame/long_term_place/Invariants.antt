use Rattle.avc_types.proofs.Frames.{◌≡◌, ℕ, ◌<◌, false, slice_index_or, is_marked, has_long_term_frame_idx, no_frame}
use Rattle.avc_types.proofs.marked_frame.long_term_place.Given as goal

abbrev pub invariant-loop-place : goal.invariant-loop-place
invariant-loop-place l = (k : ℕ) → k < l.place → is_marked (has_long_term_frame_idx l.index) (slice_index_or l.frames k no_frame) ≡ false
