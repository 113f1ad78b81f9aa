use Rattle.avc_decoder_core.proofs.Sequences.{empty_state}
use Rattle.avc_decoder_core.proofs.frame_buffer.FrameBuffer.new.Goals as goal

pub invariant_of-result : goal.invariant_of-result
invariant_of-result c = λ going. empty_state c.args.output c.new-2.result.items c.new.result c.new-2.ensures c.new.ensures.value c.new.ensures.buffer
