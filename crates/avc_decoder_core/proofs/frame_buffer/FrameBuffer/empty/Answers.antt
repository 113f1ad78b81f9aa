use Rattle.avc_decoder_core.proofs.Sequences.{◌≡◌, ◌≢◌, [], ◌∙◌, subst, ap, ap₂, sym, false, history_of, empty_frame_buffer, held_pictures, on_err}
use Rattle.avc_decoder_core.proofs.Sequences.{emptied_all, empty_state, holds_some, no_buffer}
use Rattle.avc_decoder_core.proofs.frame_buffer.FrameBuffer.empty.Goals as goal

pub invariant_of-self-2 : goal.invariant_of-self-2
invariant_of-self-2 c = λ going.
    let i = c.self.inside in
    let h = history_of i.history.items in
    let on : i.failed ≡ false = c.in_ok-check.ensures.going in
    let forgotten = emptied_all h i.dpb i.max_long_term_frame_idx i.prev_ref_frame_num (c.self.invariant on) c.in_ok-out.out.items c.empty.new.self (rw (← c.in_ok-out.ensures.same) at c.empty.ensures.ok) c.empty.ensures.kept in
    empty_state i.dpb.output c.new-self-inside.result.items c.empty.new.self c.new-self-inside.ensures forgotten.nothing (no_buffer i.dpb.output c.empty.new.self forgotten.nothing)

pub returns-clause-ok : goal.returns-clause-ok
returns-clause-ok c =
    let i = c.self.inside in
    let h = history_of i.history.items in
    let on : i.failed ≡ false = c.in_ok-check.ensures.going in
    let forgotten = emptied_all h i.dpb i.max_long_term_frame_idx i.prev_ref_frame_num (c.self.invariant on) c.in_ok-out.out.items c.empty.new.self (rw (← c.in_ok-out.ensures.same) at c.empty.ensures.ok) c.empty.ensures.kept in
    rw (c.in_ok-out.ensures.going, on) (record {
      going = sym (ap (λ v. v.failed) c.self.view_is) ∙ on;
      state = ap₂ (λ items c. record { history = history_of items; frames = c.frames; output = c.output; failed = false }) c.new-self-inside.ensures forgotten.nothing
          ∙ ap (λ v. empty_frame_buffer v.output) c.self.view_is;
      pictures = forgotten.pictures ∙ ap (λ v. held_pictures v.output v.history) c.self.view_is;
    })

pub returns-in_err-out-clause-memory : goal.returns-in_err-out-clause-memory
returns-in_err-out-clause-memory c = λ going.
    let i = c.self.inside in
    let h = history_of i.history.items in
    let state = c.self.invariant c.in_ok-check.ensures.going in
    on_err c.from_residual-in_err-out.result
    (subst (λ v. held_pictures v.output v.history ≢ []) c.self.view_is
    (holds_some h i.dpb i.max_long_term_frame_idx i.prev_ref_frame_num state ((rw (← c.in_err-out.ensures.same) at c.empty.ensures.memory) (state.buffer).works)))
