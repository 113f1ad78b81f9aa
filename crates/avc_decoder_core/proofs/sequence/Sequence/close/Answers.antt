use Rattle.avc_decoder_core.proofs.Sequences.{◌≡◌, ◌∙◌, ap, ap₂, sym, subst, false, Err, None, Some, Option, List, option_map}
use Rattle.avc_decoder_core.proofs.Sequences.{Output, true, sequence_state, order_count_state, HistoryEntry, OpenPicture, Inside, history_of}
use Rattle.avc_decoder_core.proofs.Sequences.{FrameBufferState, output_at_closing, SequenceState, OpenPictureStart, History, marks_of}
use Rattle.avc_decoder_core.proofs.Sequences.{info_of, known, pasts, sequence_sps, with_picture, IsSequenceState, IsStateOf, PictureInfo, open_picture_of, IsRefusedOn, IsStoredOn}
use Rattle.avc_decoder_core.proofs.Sequences.{can_store, closing_refused, current_is, is_closed, NoMemory, open_is, refused_on, set_then, stored_on, unchanged}
use Rattle.avc_decoder_core.proofs.Refusals.{any_after, err_is}
use Rattle.avc_decoder_core.proofs.sequence.Sequence.close.Goals as goal

-- the state on which the picture stands
kept : (s : Inside) (p : OpenPicture) → IsSequenceState s → s.failed ≡ false → s.open_picture ≡ Some p
    → IsStateOf (history_of s.closed.items) (Some p) s.buffer s.poc s.sps
kept s p invariant going opened = subst (λ o. IsStateOf (history_of s.closed.items) o s.buffer s.poc s.sps) opened (invariant going)

pub store_picture-requires : goal.store_picture-requires
store_picture-requires c =
    let s = c.self.inside in
    let p = c.in-Some.open_picture in
    let opened : s.open_picture ≡ Some p = sym c.take.ensures.value ∙ c.in-Some.is in
    let state = kept s p c.self.invariant c.in_ok-check.ensures.going opened in
    let can = can_store (history_of s.closed.items) p s.buffer c.begin_sequence-begun.new.self c.in_ok-prior.prior.items state.going state.stands (rw (← c.in_ok-prior.ensures.same) at c.begin_sequence-begun.ensures.ok) in
    record {
      going = can.going;
      sps = state.stands.limits;
      follows = can.follows;
      first = can.first;
      pic_order_cnt = ap (λ (i : PictureInfo). i.pic_order_cnt) c.info.ensures ∙ can.order_is;
      sized = c.requires.sized (open_picture_of p) (sym (ap (λ (v : SequenceState). v.open_picture) c.self.view_is) ∙ ap (option_map open_picture_of) opened);
    }

-- what is known of it
known_there : (c : goal.After-self-1) → c.info.result ≡ info_of c.in-Some.open_picture.sps c.in-Some.open_picture.header c.in-Some.open_picture.unit
    c.begin_sequence-begun.new.self.history
known_there c =
    let s = c.self.inside in
    let p = c.in-Some.open_picture in
    let state = kept s p c.self.invariant c.in_ok-check.ensures.going (sym c.take.ensures.value ∙ c.in-Some.is) in
    known p c.begin_sequence-begun.new.self c.info.result c.info.ensures
    (can_store (history_of s.closed.items) p s.buffer c.begin_sequence-begun.new.self c.in_ok-prior.prior.items state.going state.stands
    (rw (← c.in_ok-prior.ensures.same) at c.begin_sequence-begun.ensures.ok))

stored : (c : goal.After-self-1) → IsStoredOn c.in-Some.open_picture.sps c.in-Some.open_picture.header c.in-Some.open_picture.unit c.args.planes c.self.inside.buffer c.in_ok-out-in-Ok.out.items c.store_picture.new.self
stored c = stored_on _ _ _ _ _ _ _ _ _ _ _ (rw (← c.in_ok-prior.ensures.same) at c.begin_sequence-begun.ensures.ok) (known_there c) c.in-Ok.ensures.ok (rw (← c.in_ok-out-in-Ok.ensures.same) at c.joined.ensures)

pub invariant_of-self-in-Ok : goal.invariant_of-self-in-Ok
invariant_of-self-in-Ok c = λ going.
    let s = c.self.inside in
    let p = c.in-Some.open_picture in
    let state = kept s p c.self.invariant c.in_ok-check.ensures.going (sym c.take.ensures.value ∙ c.in-Some.is) in
    let done = stored c in
    subst (λ o. IsStateOf (history_of c.store_picture.new.closed.items) o c.store_picture.new.self s.poc c.set_after-self-inside.result) (sym c.take.ensures.after)
    (record {
      going = done.going;
      stands = c.in-Ok.ensures.closed;
      counts = state.counts ∙ ap (λ l. order_count_state (pasts l)) (sym done.history);
      set =
          c.set_after-self-inside.ensures
          ∙ set_then p.sps p.header p.unit c.args.planes s.buffer.history c.take-in-Ok.result (c.take-in-Ok.ensures.value ∙ state.set)
          ∙ ap sequence_sps (sym done.history);
    })

pub returns-in-Ok-clause-ok : goal.returns-in-Ok-clause-ok
returns-in-Ok-clause-ok c o told =
    let s = c.self.inside in
    let old = c.args.self.now in
    let picture = c.in-Some.open_picture in
    let planes = c.args.planes in
    let opened : s.open_picture ≡ Some picture = sym c.take.ensures.value ∙ c.in-Some.is in
    let done = stored c in
    let output : s.buffer.output ≡ old.output = ap (λ (v : SequenceState). v.output) c.self.view_is in
    let current = current_is (history_of s.closed.items) s.buffer.history s.open_picture s.buffer.frames s.buffer.output s.failed old (c.self.invariant c.in_ok-check.ensures.going).stands c.self.view_is in
    let same = open_is picture s.open_picture o old opened (ap (λ (v : SequenceState). v.open_picture) c.self.view_is) told in
    let after = with_picture picture.sps picture.header picture.unit planes s.buffer.history in
    rw (c.in_ok-out-in-Ok.ensures.going, c.in_ok-prior.ensures.going, c.in_ok-check.ensures.going, ← same)
    (is_closed old _ (open_picture_of picture) planes c.store_picture.new.self.frames s.buffer.history c.in_ok-out-in-Ok.out.items
    (sym (ap (λ (v : SequenceState). v.failed) c.self.view_is) ∙ c.in_ok-check.ensures.going) current done.marked
    (ap₂ (λ (h : History) (p : Option OpenPicture). record { history = h; open_picture = option_map open_picture_of p; frames = c.store_picture.new.self.frames; output = c.store_picture.new.self.output; failed = false })
    (c.in-Ok.ensures.closed ∙ done.history) c.take.ensures.after
    ∙ ap (λ (m : Output). record { history = after; open_picture = None; frames = c.store_picture.new.self.frames; output = m; failed = false }) (done.output ∙ output))
    (done.pictures ∙ ap (λ (m : Output). output_at_closing m picture.header s.buffer.history after) output))

not_stored : (c : goal.After-drop-prior) → IsRefusedOn c.in-Some.open_picture.sps c.in-Some.open_picture.header c.in-Some.open_picture.unit c.args.planes c.self.inside.buffer c.in-Err-Fault.fault c.store_picture.new.self
not_stored c =
    let p = c.in-Some.open_picture in
    let state = kept c.self.inside p c.self.invariant c.in_ok-check.ensures.going (sym c.take.ensures.value ∙ c.in-Some.is) in
    let refuses = rw (c.in-Err-Fault.field-0-is) at c.in-Err-Fault.ensures.err in
    let begins = rw (← c.in_ok-prior.ensures.same) at c.begin_sequence-begun.ensures.ok in
    let there = known p c.begin_sequence-begun.new.self c.info.result c.info.ensures
    (can_store (history_of c.self.inside.closed.items) p c.self.inside.buffer c.begin_sequence-begun.new.self c.in_ok-prior.prior.items state.going state.stands begins) in
    refused_on _ _ _ _ _ _ c.begin_sequence-begun.new.self _ c.in_ok-prior.prior.items _ (state.stands.follows).idr begins there refuses.1 refuses.2

pub invariant_of-self-in-Err-Fault : goal.invariant_of-self-in-Err-Fault
invariant_of-self-in-Err-Fault c = λ going.
    rw (c.in-Err-Fault.ensures.kept, (not_stored c).same)
    (kept c.self.inside c.in-Some.open_picture c.self.invariant c.in_ok-check.ensures.going (sym c.take.ensures.value ∙ c.in-Some.is))

pub returns-in-Err-Fault-clause-err : goal.returns-in-Err-Fault-clause-err
returns-in-Err-Fault-clause-err c o told =
    let s = c.self.inside in
    let old = c.args.self.now in
    let picture = c.in-Some.open_picture in
    let planes = c.args.planes in
    let opened : s.open_picture ≡ Some picture = sym c.take.ensures.value ∙ c.in-Some.is in
    let refused = not_stored c in
    let current = current_is (history_of s.closed.items) s.buffer.history s.open_picture s.buffer.frames s.buffer.output s.failed old (c.self.invariant c.in_ok-check.ensures.going).stands c.self.view_is in
    let same = open_is picture s.open_picture o old opened (ap (λ (v : SequenceState). v.open_picture) c.self.view_is) told in
    rw (c.in_ok-prior.ensures.going, c.in_ok-check.ensures.going) (
      sym (ap (λ (v : SequenceState). v.failed) c.self.view_is) ∙ c.in_ok-check.ensures.going,
      ap (λ (items : List HistoryEntry). record { history = history_of items; open_picture = Some (open_picture_of picture); frames = c.store_picture.new.self.frames; output = c.store_picture.new.self.output; failed = false }) c.in-Err-Fault.ensures.kept
          ∙ unchanged (history_of s.closed.items) s.open_picture (Some picture) s.buffer.frames c.store_picture.new.self.frames s.buffer.output c.store_picture.new.self.output s.failed old opened (ap (λ (b : FrameBufferState). b.frames) refused.same) (ap (λ (b : FrameBufferState). b.output) refused.same) c.in_ok-check.ensures.going c.self.view_is,
      closing_refused o planes old s.buffer.history c.in-Err-Fault.fault current
          (subst (λ (p : OpenPictureStart). marks_of (with_picture p.sps p.header p.unit planes s.buffer.history) ≡ Err c.in-Err-Fault.fault) same refused.refused),
    )

-- The sequence went on before the call, so nothing is asked of one that had failed.
went_on : (s : Inside) {now : SequenceState} {A : Type 0} → sequence_state s ≡ now → s.failed ≡ false → now.failed ≡ true → A
went_on s seen going failed = any_after s.failed (ap (λ (v : SequenceState). v.failed) seen ∙ failed) going

pub invariant_of-self : goal.invariant_of-self
invariant_of-self c = any_after _ c.in_err-prior.ensures.refused

pub invariant_of-self-in_err-out-in-Ok : goal.invariant_of-self-in_err-out-in-Ok
invariant_of-self-in_err-out-in-Ok c = any_after _ c.in_err-out-in-Ok.ensures.refused

pub invariant_of-self-in-Err-OutOfMemory : goal.invariant_of-self-in-Err-OutOfMemory
invariant_of-self-in-Err-OutOfMemory c = any_after _ (rw (c.keep-in-Err-OutOfMemory.ensures.same) at c.keep-in-Err-OutOfMemory.ensures.refused)

pub returns-in_err-prior-clause-ok : goal.returns-in_err-prior-clause-ok
returns-in_err-prior-clause-ok c = rw (err_is c.from_residual-in_err-prior.result (NoMemory c.in_err-prior.field-0.0) c.from_residual-in_err-prior.ensures.1) tt

pub returns-in_err-prior-clause-err : goal.returns-in_err-prior-clause-err
returns-in_err-prior-clause-err c = rw (err_is c.from_residual-in_err-prior.result (NoMemory c.in_err-prior.field-0.0) c.from_residual-in_err-prior.ensures.1) (λ o told. c.in_err-prior.ensures.refused)

pub returns-in_err-prior-clause-memory : goal.returns-in_err-prior-clause-memory
returns-in_err-prior-clause-memory c = went_on c.self.inside c.self.view_is c.in_ok-check.ensures.going

pub returns-in_err-prior-clause-stays : goal.returns-in_err-prior-clause-stays
returns-in_err-prior-clause-stays c = went_on c.self.inside c.self.view_is c.in_ok-check.ensures.going

pub returns-in_err-out-in-Ok-clause-ok : goal.returns-in_err-out-in-Ok-clause-ok
returns-in_err-out-in-Ok-clause-ok c = rw (err_is c.from_residual-in_err-out-in-Ok.result (NoMemory c.in_err-out-in-Ok.field-0.0) c.from_residual-in_err-out-in-Ok.ensures.1) tt

pub returns-in_err-out-in-Ok-clause-err : goal.returns-in_err-out-in-Ok-clause-err
returns-in_err-out-in-Ok-clause-err c = rw (err_is c.from_residual-in_err-out-in-Ok.result (NoMemory c.in_err-out-in-Ok.field-0.0) c.from_residual-in_err-out-in-Ok.ensures.1) (λ o told. c.in_err-out-in-Ok.ensures.refused)

pub returns-in_err-out-in-Ok-clause-memory : goal.returns-in_err-out-in-Ok-clause-memory
returns-in_err-out-in-Ok-clause-memory c = went_on c.self.inside c.self.view_is c.in_ok-check.ensures.going

pub returns-in_err-out-in-Ok-clause-stays : goal.returns-in_err-out-in-Ok-clause-stays
returns-in_err-out-in-Ok-clause-stays c = went_on c.self.inside c.self.view_is c.in_ok-check.ensures.going

pub returns-in_err-keep-in-Err-OutOfMemory-clause-ok : goal.returns-in_err-keep-in-Err-OutOfMemory-clause-ok
returns-in_err-keep-in-Err-OutOfMemory-clause-ok c = rw (err_is c.from_residual-in_err-keep-in-Err-OutOfMemory.result (NoMemory c.in_err-keep-in-Err-OutOfMemory.field-0.0) c.from_residual-in_err-keep-in-Err-OutOfMemory.ensures.1) tt

pub returns-in_err-keep-in-Err-OutOfMemory-clause-err : goal.returns-in_err-keep-in-Err-OutOfMemory-clause-err
returns-in_err-keep-in-Err-OutOfMemory-clause-err c = rw (err_is c.from_residual-in_err-keep-in-Err-OutOfMemory.result (NoMemory c.in_err-keep-in-Err-OutOfMemory.field-0.0) c.from_residual-in_err-keep-in-Err-OutOfMemory.ensures.1) (λ o told. c.in_err-keep-in-Err-OutOfMemory.ensures.refused)

pub returns-in_err-keep-in-Err-OutOfMemory-clause-memory : goal.returns-in_err-keep-in-Err-OutOfMemory-clause-memory
returns-in_err-keep-in-Err-OutOfMemory-clause-memory c = went_on c.self.inside c.self.view_is c.in_ok-check.ensures.going

pub returns-in_err-keep-in-Err-OutOfMemory-clause-stays : goal.returns-in_err-keep-in-Err-OutOfMemory-clause-stays
returns-in_err-keep-in-Err-OutOfMemory-clause-stays c = went_on c.self.inside c.self.view_is c.in_ok-check.ensures.going

pub returns-in-Ok-clause-memory : goal.returns-in-Ok-clause-memory
returns-in-Ok-clause-memory c = went_on c.self.inside c.self.view_is c.in_ok-check.ensures.going

pub returns-in-Ok-clause-stays : goal.returns-in-Ok-clause-stays
returns-in-Ok-clause-stays c = went_on c.self.inside c.self.view_is c.in_ok-check.ensures.going

pub returns-in-Err-Fault-clause-memory : goal.returns-in-Err-Fault-clause-memory
returns-in-Err-Fault-clause-memory c = went_on c.self.inside c.self.view_is c.in_ok-check.ensures.going

pub returns-in-Err-Fault-clause-stays : goal.returns-in-Err-Fault-clause-stays
returns-in-Err-Fault-clause-stays c = went_on c.self.inside c.self.view_is c.in_ok-check.ensures.going

pub returns-in-Ok-clause-err : goal.returns-in-Ok-clause-err
returns-in-Ok-clause-err c = tt

pub returns-in-Err-Fault-clause-ok : goal.returns-in-Err-Fault-clause-ok
returns-in-Err-Fault-clause-ok c = tt
