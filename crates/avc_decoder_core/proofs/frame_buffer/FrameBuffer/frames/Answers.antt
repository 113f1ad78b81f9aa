use Rattle.avc_decoder_core.proofs.Sequences.{◌≡◌, ◌∙◌, ◌≤◌, ap, false, length, subst, sym, history_of, AreFramesIn, AreStoredIn, are_frames, are_stored, few_needed}
use Rattle.avc_decoder_core.proofs.frame_buffer.FrameBuffer.frames.Goals as goal

pub returns-clause-stored : goal.returns-clause-stored
returns-clause-stored c = λ going.
    let i = c.self.inside in
    let on : i.failed ≡ false = ap (λ v. v.failed) c.self.view_is ∙ going in
    let history = ap (λ v. v.history) c.self.view_is in
    subst (λ fs. AreStoredIn c.args.self.now.history fs) (sym c.frames.ensures)
    (subst (λ h. AreStoredIn h i.dpb.frames) history (are_stored (history_of i.history.items) i.dpb i.max_long_term_frame_idx i.prev_ref_frame_num (c.self.invariant on)))

pub returns-clause-sized : goal.returns-clause-sized
returns-clause-sized c = λ going.
    let i = c.self.inside in
    let on : i.failed ≡ false = ap (λ v. v.failed) c.self.view_is ∙ going in
    let history = ap (λ v. v.history) c.self.view_is in
    subst (λ fs. AreFramesIn c.args.self.now.history fs) (sym c.frames.ensures)
    (subst (λ h. AreFramesIn h i.dpb.frames) history (are_frames (history_of i.history.items) i.dpb i.max_long_term_frame_idx i.prev_ref_frame_num (c.self.invariant on)))

pub returns-clause-few : goal.returns-clause-few
returns-clause-few c = λ going.
    let i = c.self.inside in
    let on : i.failed ≡ false = ap (λ v. v.failed) c.self.view_is ∙ going in
    subst (λ fs. length fs ≤ 16) (sym c.frames.ensures) (few_needed i c.self.invariant on)
