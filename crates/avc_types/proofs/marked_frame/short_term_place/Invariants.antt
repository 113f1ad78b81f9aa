use Rattle.avc_types.proofs.Frames.{◌≡◌, ℕ, ◌<◌, ◌≤◌, false, length, slice_index_or, is_marked, has_pic_num, no_frame}
use Rattle.avc_types.proofs.marked_frame.short_term_place.Given as goal

abbrev pub invariant-loop-place : goal.invariant-loop-place
invariant-loop-place l = (k : ℕ) → l.place ≤ k → k < length l.frames → is_marked (has_pic_num l.current l.number) (slice_index_or l.frames k no_frame) ≡ false
