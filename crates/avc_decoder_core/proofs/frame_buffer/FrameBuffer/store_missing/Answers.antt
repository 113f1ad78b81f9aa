use Rattle.avc_decoder_core.proofs.Sequences.{◌≡◌, ◌∙◌, ◌∷◌, ◌+◌, ◌-◌, [], length, map, ap, ap₂, refl, sym, false, Err, arith}
use Rattle.avc_decoder_core.proofs.Sequences.{false≢true, marked_frame, history_of, with_all_marks}
use Rattle.avc_decoder_core.proofs.Sequences.{is_ok, Entry, is_same_sps, marks_of, missing_frame, sequence_sps}
use Rattle.avc_decoder_core.proofs.Sequences.{marked_then, IsTaken, few_marked, taken, frame_made, arrival_of_missing, missing_arrives, outputs_none}
use Rattle.avc_decoder_core.proofs.Sequences.{capacity_of, marks_for_all, on_err}
use Rattle.avc_decoder_core.proofs.Refusals.{any_after, err_is}
use Rattle.avc_decoder_core.proofs.frame_buffer.FrameBuffer.store_missing.Goals as goal

pub sliding_window-requires : goal.sliding_window-requires
sliding_window-requires c = (few_marked c.self.inside _ _ c.self.invariant (ap (λ v. v.failed) c.self.view_is ∙ c.requires.going) c.frames.ensures c.marked_frames-marked.ensures).1

pub unreachable-requires : goal.unreachable-requires
unreachable-requires c =
    let i = c.self.inside in
    let h = history_of i.history.items in
    let e = missing_frame c.args.sps.now c.args.frame_num in
    let on : i.failed ≡ false = ap (λ v. v.failed) c.self.view_is ∙ c.requires.going in
    let old = c.marked_frames-marked.result.items in
    let new = c.sliding_window.new.frames.items in
    let idx = i.max_long_term_frame_idx in
    let marks = rw (c.new_frame.ensures) at (c.in_default.ensures.marks idx) in
    let then = marked_then e h i.dpb idx i.prev_ref_frame_num (c.self.invariant on) old new (Err c.in_default.field-0) idx
    (c.marked_frames-marked.ensures ∙ ap (map marked_frame) c.frames.ensures) marks in
    false≢true (sym (ap is_ok then) ∙ ap (λ v. is_ok (marks_of (e ∷ v.history))) c.self.view_is ∙ c.requires.marked)

-- the entry
abbrev entry : goal.After-self-1 → Entry
entry c = missing_frame c.args.sps.now c.args.frame_num

-- It has come to the history.
record IsStored (c : goal.After-self-1) : Type 0 where
  history : history_of c.with_newest-history.result.items ≡ entry c ∷ history_of c.self.inside.history.items
  taken :
      IsTaken c.self.inside.dpb.output (entry c) (history_of c.self.inside.history.items)
      c.store.new.self c.self.inside.max_long_term_frame_idx c.args.frame_num [] c.in_ok-out.out.items

stored : (c : goal.After-self-1) → IsStored c
stored c =
    let i = c.self.inside in
    let h = history_of i.history.items in
    let sps = c.args.sps.now in
    let frame_num = c.args.frame_num in
    let e = missing_frame sps frame_num in
    let on : i.failed ≡ false = ap (λ v. v.failed) c.self.view_is ∙ c.requires.going in
    let old = c.marked_frames-marked.result.items in
    let new = c.sliding_window.new.frames.items in
    let idx = i.max_long_term_frame_idx in
    let marks = rw (c.new_frame.ensures) at (c.in-Ok.ensures.marks idx) in
    let set : c.set_marks.new.dpb ≡ with_all_marks i.dpb new = c.set_marks.ensures ∙ ap (with_all_marks i.dpb) c.as_slice.ensures.value in
    let last : (c.len.result - 1) + 1 ≡ length new = omega (arith, c.len.ensures.value, c.in-Ok.ensures.length) in
    let made =
    frame_made e _ new c.deref.result.now c.entry_frame-frame.result (c.len.result - 1) _
    (ap (λ s. missing_frame s frame_num) c.copied.ensures) c.deref.ensures.0 c.entry_frame-frame.ensures in
    let follows = ap (λ v. is_same_sps (sequence_sps v.history) sps) c.self.view_is ∙ c.requires.same in
    record {
      history = ap history_of c.with_newest-history.ensures ∙ ap (λ s. missing_frame s frame_num ∷ h) c.copied.ensures;
      taken =
          taken e h i.dpb idx i.prev_ref_frame_num (c.self.invariant on) follows c.requires.sps old new idx
          (c.marked_frames-marked.ensures ∙ ap (map marked_frame) c.frames.ensures) c.in-Ok.ensures.length marks
          c.set_marks.new.dpb c.set_marks.new.dpb c.store.new.self set
          [] c.in_ok-out.out.items (outputs_none c.set_marks.new.dpb) refl
          c.entry_frame-frame.result (c.len.result - 1) _ last made
          (arrival_of_missing c.dpb_size.result) (missing_arrives sps frame_num h c.dpb_size.result c.dpb_size.ensures)
          (rw (← c.in_ok-out.ensures.same) at c.store.ensures.ok) c.store.ensures.kept frame_num refl;
    }

pub invariant_of-self-2 : goal.invariant_of-self-2
invariant_of-self-2 c = λ going.
    rw ((stored c).history) ((stored c).taken).state

pub returns-clause-ok : goal.returns-clause-ok
returns-clause-ok c =
    let s = stored c in
    rw (c.in_ok-out.ensures.going, ap (λ v. v.failed) c.self.view_is ∙ c.requires.going, ← c.self.view_is) (record {
      going = ap (λ v. v.failed) c.self.view_is ∙ c.requires.going;
      state = ap₂ (λ h o. record { history = h; frames = (c.store.new.self).frames; output = o; failed = false }) s.history (s.taken).kept;
      marked = (s.taken).ok;
      pictures = (s.taken).pictures;
    })

pub set_marks-requires : goal.set_marks-requires
set_marks-requires c =
    marks_for_all c.self.inside.dpb.frames c.frames.result.now c.marked_frames-marked.result.items c.sliding_window.new.frames.items c.as_slice.result.now
    c.frames.ensures c.marked_frames-marked.ensures c.in-Ok.ensures.length c.as_slice.ensures.value

pub store-requires : goal.store-requires
store-requires c = record { capacity = rw c.dpb_size.ensures (capacity_of c.args.sps.now c.requires.sps.references) }

pub invariant_of-self : goal.invariant_of-self
invariant_of-self c = any_after _ c.in_err-out.ensures.refused

pub returns-in_err-out-clause-ok : goal.returns-in_err-out-clause-ok
returns-in_err-out-clause-ok c = rw (err_is c.from_residual.result c.in_err-out.field-0.0 c.from_residual.ensures.1) tt

pub returns-in_err-out-clause-err : goal.returns-in_err-out-clause-err
returns-in_err-out-clause-err c = on_err c.from_residual.result c.in_err-out.ensures.refused
