use Rattle.avc_decoder_core.proofs.Sequences.{◌≡◌, ◌∙◌, ◌+◌, ◌-◌, ◌≤◌, drop, length, Ok, ap, sym, subst, is_ok, arith, history_of, FrameBufferState}
use Rattle.avc_decoder_core.proofs.Sequences.{KeepsTheSame, with_all_missing, output_pictures, with_missing, all_of, end_marked}
use Rattle.avc_decoder_core.proofs.Sequences.{long_gaps_leave_their_end, is_with_all}
use Rattle.avc_decoder_core.proofs.missing_frames.store_last.Goals as goal

pub store_each-requires-clause-marked : goal.store_each-requires-clause-marked
store_each-requires-clause-marked c =
    let sps = c.args.sps.now in
    let h = c.args.buffer.now.history in
    let far : (c.len-skipped.result - 16) + 16 ≤ length c.args.numbers = omega arith in
    ap (λ l. is_ok (with_missing sps l h)) c.skip.ensures
    ∙ end_marked c.args.buffer.now.output sps h c.args.numbers (c.len-skipped.result - 16) c.requires.gap far

pub stand_for-requires-clause-same : goal.stand_for-requires-clause-same
stand_for-requires-clause-same c =
    let sps = c.args.sps.now in
    let h = c.args.buffer.now.history in
    let o = c.args.buffer.now.output in
    let mid = c.store_each.new.buffer in
    let far : (c.len-skipped.result - 16) + 16 ≤ length c.args.numbers = omega arith in
    let law = long_gaps_leave_their_end o sps h c.args.numbers (c.len-skipped.result - 16) c.requires.gap far in
    let stores = c.in_ok-out.ensures in
    let reached : mid.history ≡ with_all_missing sps (drop (c.len-skipped.result - 16) c.args.numbers) h =
    is_with_all sps c.skip.result h mid.history stores.history ∙ ap (λ l. with_all_missing sps l h) c.skip.ensures in
    subst (λ x. KeepsTheSame x mid.history (history_of c.history_with-history.result.items)) (sym stores.output)
    (subst (λ x. KeepsTheSame o x (history_of c.history_with-history.result.items)) (sym reached)
    (subst (λ x. KeepsTheSame o (with_all_missing sps (drop (c.len-skipped.result - 16) c.args.numbers) h) x) (sym c.history_with-history.ensures) law.same_state))

pub returns : goal.returns
returns c =
    let sps = c.args.sps.now in
    let h = c.args.buffer.now.history in
    let o = c.args.buffer.now.output in
    let mid = c.store_each.new.buffer in
    let new = c.stand_for.new.self in
    let far : (c.len-skipped.result - 16) + 16 ≤ length c.args.numbers = omega arith in
    let law = long_gaps_leave_their_end o sps h c.args.numbers (c.len-skipped.result - 16) c.requires.gap far in
    let stores = c.in_ok-out.ensures in
    let reached : mid.history ≡ with_all_missing sps (drop (c.len-skipped.result - 16) c.args.numbers) h =
    is_with_all sps c.skip.result h mid.history stores.history ∙ ap (λ l. with_all_missing sps l h) c.skip.ensures in
    let now : new.history ≡ with_all_missing sps c.args.numbers h = ap (λ (b : FrameBufferState). b.history) c.stand_for.ensures ∙ c.history_with-history.ensures in
    record {
      going = ap (λ (b : FrameBufferState). b.failed) c.stand_for.ensures ∙ stores.going;
      history = all_of sps c.args.numbers h c.requires.marked ∙ ap Ok (sym now);
      output = ap (λ (b : FrameBufferState). b.output) c.stand_for.ensures ∙ stores.output;
      pictures = stores.pictures ∙ ap (output_pictures o h) reached ∙ law.nothing_out_shorter ∙ sym law.nothing_out ∙ ap (output_pictures o h) (sym now);
    }
