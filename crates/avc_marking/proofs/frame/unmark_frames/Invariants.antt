use Rattle.avc_marking.proofs.KeptFrames.{◌≡◌, ℕ, ◌<◌, ◌≤◌, slice_index_or, no_frame, is_to_unmark, unmarked_if}
use Rattle.avc_marking.proofs.frame.unmark_frames.Given as goal

abbrev pub invariant-loop-place : goal.invariant-loop-place
invariant-loop-place l = record {
  done : (k : ℕ) → k < l.place → slice_index_or l.frames k no_frame ≡ unmarked_if (is_to_unmark l.to_unmark) (slice_index_or l.initial.frames k no_frame);
  left : (k : ℕ) → l.place ≤ k → slice_index_or l.frames k no_frame ≡ slice_index_or l.initial.frames k no_frame;
}
