use Rattle.avc_decoder_core.proofs.Sequences.{◌≡◌, ◌∙◌, ◌∷◌, map, ap, sym, false, result_map, marked_frame}
use Rattle.avc_decoder_core.proofs.Sequences.{history_of, marks_of, missing_frame, marked_then, answered, few_marked}
use Rattle.avc_decoder_core.proofs.frame_buffer.FrameBuffer.can_store_missing.Goals as goal

pub sliding_window-requires : goal.sliding_window-requires
sliding_window-requires c =
    (few_marked c.self.inside _ _ c.self.invariant (ap (λ v. v.failed) c.self.view_is ∙ c.requires.going) c.frames.ensures c.marked_frames-marked.ensures).1

pub returns : goal.returns
returns c =
    let i = c.self.inside in
    let h = history_of i.history.items in
    let e = missing_frame c.args.sps.now c.args.frame_num in
    let on : i.failed ≡ false = ap (λ v. v.failed) c.self.view_is ∙ c.requires.going in
    let old = c.marked_frames-marked.result.items in
    let new = c.sliding_window.new.frames.items in
    let idx = i.max_long_term_frame_idx in
    let marks = rw (c.new_frame.ensures) at (c.sliding_window.ensures.marks idx) in
    let then = marked_then e h i.dpb idx i.prev_ref_frame_num (c.self.invariant on) old new c.sliding_window.result idx
    (c.marked_frames-marked.ensures ∙ ap (map marked_frame) c.frames.ensures) marks in
    answered c.sliding_window.result _ ∙ ap (result_map (λ _. tt)) (sym then) ∙ ap (λ v. result_map (λ _. tt) (marks_of (e ∷ v.history))) c.self.view_is
