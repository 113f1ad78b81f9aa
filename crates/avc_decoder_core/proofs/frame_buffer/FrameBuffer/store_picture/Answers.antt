use Rattle.avc_decoder_core.proofs.Sequences.{◌≡◌, ◌∙◌, ◌∷◌, ◌+◌, ◌-◌, length, map, ap, ap₂, refl, rules, to_z, of_z, w32, sym, subst, false}
use Rattle.avc_decoder_core.proofs.Sequences.{Err, arith, marks_for_all, Faulty, NoMemory, order_counts, CanFollow, marked_frame}
use Rattle.avc_decoder_core.proofs.Sequences.{frame_num_after_marking, history_of, with_all_marks}
use Rattle.avc_decoder_core.proofs.Sequences.{Entry, decoded_picture, marks_of, order_or_0, pasts, picture_entry, marked_then, IsTaken, few_marked}
use Rattle.avc_decoder_core.proofs.Sequences.{capacity_of, on_err, refused, taken, frame_made, picture_arrival, picture_arrives, picture_previous}
use Rattle.avc_marking.specs.Frames.{marking_entry}
use Rattle.avc_decoder_core.proofs.Refusals.{any_after, err_is}
use Rattle.avc_decoder_core.proofs.frame_buffer.FrameBuffer.store_picture.Goals as goal

pub mark-requires : goal.mark-requires
mark-requires c = (few_marked c.self.inside _ _ c.self.invariant (ap (λ v. v.failed) c.self.view_is ∙ c.requires.going) c.frames.ensures c.marked_frames-marked.ensures).1

pub returns-in_err-mark-clause-err : goal.returns-in_err-mark-clause-err
returns-in_err-mark-clause-err c =
    let i = c.self.inside in
    let h = history_of i.history.items in
    let sps = c.args.sps.now in
    let header = c.args.header.now in
    let planes = c.args.planes in
    let e = decoded_picture sps header c.args.info planes in
    let on : i.failed ≡ false = ap (λ v. v.failed) c.self.view_is ∙ c.requires.going in
    let before : h ≡ c.args.self.now.history = ap (λ v. v.history) c.self.view_is in
    let old = c.marked_frames-marked.result.items in
    let new = c.mark.new.frames.items in
    let idx = i.max_long_term_frame_idx in
    let new_idx = c.mark.new.max_long_term_frame_idx in
    let f = c.in_err-mark.field-0.0 in
    let marks = rw (c.new_frame-new.ensures) at c.in_err-mark.ensures.marks in
    let then = marked_then e h i.dpb idx i.prev_ref_frame_num (c.self.invariant on) old new (Err f) new_idx
    (c.marked_frames-marked.ensures ∙ ap (map marked_frame) c.frames.ensures) marks in
    let is : c.from_residual.result ≡ Err (Faulty f) = err_is c.from_residual.result (Faulty f) c.from_residual.ensures.1 in
    refused c.args.self.now c.args.self.now (marks_of (e ∷ c.args.self.now.history)) f c.from_residual.result is c.requires.going refl
    (sym (ap (λ h. marks_of (e ∷ h)) before) ∙ then)

-- the entry
abbrev entry : goal.After-self-2-1 → Entry
entry c = decoded_picture c.args.sps.now c.args.header.now c.args.info c.args.planes

-- It has come to the history.
record IsStored (c : goal.After-self-2-1) : Type 0 where
  history : history_of c.with_newest-history.result.items ≡ entry c ∷ history_of c.self.inside.history.items
  taken :
      IsTaken c.self.inside.dpb.output (entry c) (history_of c.self.inside.history.items)
      c.store.new.self c.mark.new.max_long_term_frame_idx c.prev_ref_frame_num_after-self-inside.result
      c.in_ok-prior.prior.items c.in_ok-more.more.items

stored : (c : goal.After-self-2-1) → IsStored c
stored c =
    let i = c.self.inside in
    let h = history_of i.history.items in
    let sps = c.args.sps.now in
    let header = c.args.header.now in
    let planes = c.args.planes in
    let e = decoded_picture sps header c.args.info planes in
    let on : i.failed ≡ false = ap (λ v. v.failed) c.self.view_is ∙ c.requires.going in
    let before : h ≡ c.args.self.now.history = ap (λ v. v.history) c.self.view_is in
    let old = c.marked_frames-marked.result.items in
    let new = c.mark.new.frames.items in
    let idx = i.max_long_term_frame_idx in
    let new_idx = c.mark.new.max_long_term_frame_idx in
    let marks = rw (c.new_frame-new.ensures) at c.in_ok-mark.ensures.marks in
    let number : c.frame_num_after_marking-frame_num.result ≡ frame_num_after_marking (picture_entry sps header) =
    c.frame_num_after_marking-frame_num.ensures
    ∙ ap (λ n. frame_num_after_marking (marking_entry n header.marking)) c.new_frame-new.ensures in
    let set : c.set_marks.new.dpb ≡ with_all_marks i.dpb new = c.set_marks.ensures ∙ ap (with_all_marks i.dpb) c.as_slice.ensures.value in
    let last : (c.len.result - 1) + 1 ≡ length new = omega (arith, c.len.ensures.value, c.in_ok-mark.ensures.length) in
    let same : decoded_picture c.copied.result c.copied-2.result c.args.info planes ≡ e =
    ap₂ (λ s t. decoded_picture s t c.args.info planes) c.copied.ensures c.copied-2.ensures in
    let made =
    frame_made e _ new c.deref.result.now c.entry_frame-frame.result (c.len.result - 1) _ same
    c.deref.ensures.0 c.entry_frame-frame.ensures in
    let follows = subst (λ h. CanFollow h sps header) (sym before) c.requires.follows in
    let count = to_z w32 (of_z w32 c.args.info.pic_order_cnt) in
    let back : count ≡ c.args.info.pic_order_cnt = search rules in
    let order = back ∙ c.requires.pic_order_cnt ∙ ap (λ h. order_or_0 (order_counts sps header (pasts h))) (sym before) in
    let state = c.self.invariant on in
    record {
      history = ap history_of c.with_newest-history.ensures ∙ ap (λ e. e ∷ h) same;
      taken =
          taken e h i.dpb idx i.prev_ref_frame_num state (follows, c.requires.sized, λ idr. before ∙ c.requires.first idr) c.requires.sps old new new_idx
          (c.marked_frames-marked.ensures ∙ ap (map marked_frame) c.frames.ensures) c.in_ok-mark.ensures.length marks
          c.set_marks.new.dpb c.output_prior_pictures.new.dpb c.store.new.self set
          c.in_ok-prior.prior.items c.in_ok-more.more.items (rw (← c.in_ok-prior.ensures.same) at c.output_prior_pictures.ensures.ok) c.output_prior_pictures.ensures.kept
          c.entry_frame-frame.result (c.len.result - 1) _ last made
          (picture_arrival count c.is_reference.result c.dpb_size.result c.max_num_reorder_frames.result)
          (picture_arrives sps header c.args.info planes h count c.is_reference.result c.dpb_size.result c.max_num_reorder_frames.result
          order c.is_reference.ensures c.dpb_size.ensures c.max_num_reorder_frames.ensures)
          (rw (← c.in_ok-more.ensures.same) at c.store.ensures.ok) c.store.ensures.kept c.prev_ref_frame_num_after-self-inside.result
          (picture_previous sps header c.args.info planes h i.prev_ref_frame_num
          c.frame_num_after_marking-frame_num.result c.prev_ref_frame_num_after-self-inside.result
          state.previous_is number c.prev_ref_frame_num_after-self-inside.ensures);
    }

pub invariant_of-self-2 : goal.invariant_of-self-2
invariant_of-self-2 c = λ going.
    rw ((stored c).history) ((stored c).taken).state

pub returns-clause-ok : goal.returns-clause-ok
returns-clause-ok c =
    let s = stored c in
    rw (
      c.in_ok-out.ensures.going,
      c.in_ok-more.ensures.going,
      c.in_ok-prior.ensures.going,
      ap (λ v. v.failed) c.self.view_is ∙ c.requires.going,
      ← c.self.view_is,
    ) (record {
      going = ap (λ v. v.failed) c.self.view_is ∙ c.requires.going;
      state = ap₂ (λ h o. record { history = h; frames = (c.store.new.self).frames; output = o; failed = false }) s.history (s.taken).kept;
      marked = (s.taken).ok;
      pictures = (rw (← c.in_ok-out.ensures.same) at c.joined.ensures) ∙ (s.taken).pictures;
    })

pub returns-in_err-mark-clause-ok : goal.returns-in_err-mark-clause-ok
returns-in_err-mark-clause-ok c = rw (err_is c.from_residual.result (Faulty c.in_err-mark.field-0.0) c.from_residual.ensures.1) tt

pub returns-in_err-mark-clause-closed : goal.returns-in_err-mark-clause-closed
returns-in_err-mark-clause-closed c = rw (err_is c.from_residual.result (Faulty c.in_err-mark.field-0.0) c.from_residual.ensures.1) tt

pub returns-in_err-mark-clause-kept : goal.returns-in_err-mark-clause-kept
returns-in_err-mark-clause-kept c = on_err c.from_residual.result refl

pub invariant_of-self : goal.invariant_of-self
invariant_of-self c = any_after _ c.in_err-prior.ensures.refused

pub returns-in_err-prior-clause-ok : goal.returns-in_err-prior-clause-ok
returns-in_err-prior-clause-ok c = rw (err_is c.from_residual-in_err-prior.result (NoMemory c.in_err-prior.field-0.0) c.from_residual-in_err-prior.ensures.1) tt

pub returns-in_err-prior-clause-err : goal.returns-in_err-prior-clause-err
returns-in_err-prior-clause-err c = rw (err_is c.from_residual-in_err-prior.result (NoMemory c.in_err-prior.field-0.0) c.from_residual-in_err-prior.ensures.1) c.in_err-prior.ensures.refused

pub returns-in_err-prior-clause-closed : goal.returns-in_err-prior-clause-closed
returns-in_err-prior-clause-closed c = rw (err_is c.from_residual-in_err-prior.result (NoMemory c.in_err-prior.field-0.0) c.from_residual-in_err-prior.ensures.1) tt

pub returns-in_err-prior-clause-kept : goal.returns-in_err-prior-clause-kept
returns-in_err-prior-clause-kept c = on_err c.from_residual-in_err-prior.result refl

pub invariant_of-self-in_err-more : goal.invariant_of-self-in_err-more
invariant_of-self-in_err-more c = any_after _ c.in_err-more.ensures.refused

pub returns-in_err-more-clause-ok : goal.returns-in_err-more-clause-ok
returns-in_err-more-clause-ok c = rw (err_is c.from_residual-in_err-more.result (NoMemory c.in_err-more.field-0.0) c.from_residual-in_err-more.ensures.1) tt

pub returns-in_err-more-clause-err : goal.returns-in_err-more-clause-err
returns-in_err-more-clause-err c = rw (err_is c.from_residual-in_err-more.result (NoMemory c.in_err-more.field-0.0) c.from_residual-in_err-more.ensures.1) c.in_err-more.ensures.refused

pub returns-in_err-more-clause-closed : goal.returns-in_err-more-clause-closed
returns-in_err-more-clause-closed c = rw (err_is c.from_residual-in_err-more.result (NoMemory c.in_err-more.field-0.0) c.from_residual-in_err-more.ensures.1) tt

pub returns-in_err-more-clause-kept : goal.returns-in_err-more-clause-kept
returns-in_err-more-clause-kept c = on_err c.from_residual-in_err-more.result refl

pub invariant_of-self-in_err-out : goal.invariant_of-self-in_err-out
invariant_of-self-in_err-out c = any_after _ c.in_err-out.ensures.refused

pub returns-in_err-out-clause-ok : goal.returns-in_err-out-clause-ok
returns-in_err-out-clause-ok c = rw (err_is c.from_residual-in_err-out.result (NoMemory c.in_err-out.field-0.0) c.from_residual-in_err-out.ensures.1) tt

pub returns-in_err-out-clause-err : goal.returns-in_err-out-clause-err
returns-in_err-out-clause-err c = rw (err_is c.from_residual-in_err-out.result (NoMemory c.in_err-out.field-0.0) c.from_residual-in_err-out.ensures.1) c.in_err-out.ensures.refused

pub returns-in_err-out-clause-closed : goal.returns-in_err-out-clause-closed
returns-in_err-out-clause-closed c = rw (err_is c.from_residual-in_err-out.result (NoMemory c.in_err-out.field-0.0) c.from_residual-in_err-out.ensures.1) tt

pub returns-in_err-out-clause-kept : goal.returns-in_err-out-clause-kept
returns-in_err-out-clause-kept c = on_err c.from_residual-in_err-out.result refl

pub set_marks-requires : goal.set_marks-requires
set_marks-requires c =
    marks_for_all c.self.inside.dpb.frames c.frames.result.now c.marked_frames-marked.result.items c.mark.new.frames.items c.as_slice.result.now
    c.frames.ensures c.marked_frames-marked.ensures c.in_ok-mark.ensures.length c.as_slice.ensures.value

pub entry_frame-frame-requires : goal.entry_frame-frame-requires
entry_frame-frame-requires c =
    c.frame_num_after_marking-frame_num.ensures
    ∙ ap (λ n. frame_num_after_marking (marking_entry n c.args.header.now.marking)) c.new_frame-new.ensures
    ∙ sym (ap₂ (λ s t. frame_num_after_marking (picture_entry s t)) c.copied.ensures c.copied-2.ensures)

pub store-requires : goal.store-requires
store-requires c = record { capacity = rw c.dpb_size.ensures (capacity_of c.args.sps.now c.requires.sps.references) }

pub returns-clause-closed : goal.returns-clause-closed
returns-clause-closed c = ap history_of (c.with_newest-with_picture.ensures ∙ sym c.with_newest-history.ensures)
