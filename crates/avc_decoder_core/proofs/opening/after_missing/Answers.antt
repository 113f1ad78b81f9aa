use Rattle.avc_decoder_core.proofs.Sequences.{◌≡◌, ◌∷◌, ◌∙◌, ap, sym, Err, arith, rules, order_count_state, with_all_missing, marks_of, missing_frame}
use Rattle.avc_decoder_core.proofs.Sequences.{pasts, all_counted, first_refused, marking_is_ok}
use Rattle.avc_decoder_core.proofs.opening.after_missing.Goals as goal

pub returns-in_err-can_store_missing : goal.returns-in_err-can_store_missing
returns-in_err-can_store_missing c =
    let told : c.from_residual.result ≡ Err c.in_err-can_store_missing.field-0.0 = first_of (search rules, grind arith) in
    told
    ∙ first_refused c.args.sps.now c.args.numbers c.in-Some.first c.args.buffer.now.history c.in_err-can_store_missing.field-0.0 (sym c.in-Some.ensures.first)
    c.in_err-can_store_missing.ensures

pub returns : goal.returns
returns c =
    let history = c.args.buffer.now.history in
    let sps = c.args.sps.now in
    let entry = missing_frame sps c.in-Some.first in
    all_counted sps c.args.numbers c.in-Some.first history c.count_missing.new.poc (sym c.in-Some.ensures.first)
    (marking_is_ok (marks_of (entry ∷ history)) c.in_ok-can_store_missing.field-0 c.in_ok-can_store_missing.ensures)
    (c.count_missing.ensures (entry ∷ history) (c.missing.ensures (pasts history) c.requires.counts)
    ∙ ap (λ l. order_count_state (pasts (with_all_missing sps l (entry ∷ history)))) c.next.ensures.rest)
