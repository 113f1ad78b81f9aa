use Rattle.avc_decoder_core.proofs.Sequences.{◌≡◌, map, take, marked_frame}
use Rattle.avc_decoder_core.proofs.frame_buffer.marked_frames.Given as goal

abbrev pub invariant-loop-frame : goal.invariant-loop-frame
invariant-loop-frame l = l.marked.items ≡ map marked_frame (take l.frame-index l.frames)
