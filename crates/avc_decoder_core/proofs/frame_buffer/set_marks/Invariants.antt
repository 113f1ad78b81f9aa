use Rattle.avc_decoder_core.proofs.Sequences.{◌≡◌, take, with_all_marks}
use Rattle.avc_decoder_core.proofs.frame_buffer.set_marks.Given as goal

abbrev pub invariant-loop-place : goal.invariant-loop-place
invariant-loop-place l = l.dpb ≡ with_all_marks l.initial.dpb (take l.place l.marked)
