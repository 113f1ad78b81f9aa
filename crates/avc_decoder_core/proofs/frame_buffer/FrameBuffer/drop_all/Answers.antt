use Rattle.avc_decoder_core.proofs.Sequences.{empty_state, no_buffer, [], ap, ◌∙◌}
use Rattle.avc_decoder_core.proofs.frame_buffer.FrameBuffer.drop_all.Goals as goal

pub invariant_of-self : goal.invariant_of-self
invariant_of-self c = λ going.
    let i = c.self.inside in
    let nothing = c.drop_all.ensures.value ∙ ap (λ failed. record { slots = []; frames = []; output = i.dpb.output; failed = failed }) (c.self.invariant going).buffer.works in
    empty_state i.dpb.output c.new-self-inside.result.items c.drop_all.new.self c.new-self-inside.ensures nothing (no_buffer i.dpb.output c.drop_all.new.self nothing)
