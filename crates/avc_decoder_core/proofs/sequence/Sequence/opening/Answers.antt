use Rattle.avc_decoder_core.proofs.Sequences.{◌≡◌, ◌∙◌, [], ap, sym, Err, None, false, arith, rules}
use Rattle.avc_decoder_core.proofs.Sequences.{history_of, counts_over, SequenceState, Inside}
use Rattle.avc_decoder_core.proofs.Sequences.{with_missing, IsSequenceState, sequence_state, counted_over, finds_idr, finds_other}
use Rattle.avc_decoder_core.proofs.Sequences.{refused_missing, refused_numbers, at_rest}
use Rattle.avc_decoder_core.proofs.sequence.Sequence.opening.Goals as goal

-- No picture is open: the frame buffer's history is that of the sequence.
rests : (s : Inside) (now : SequenceState) → IsSequenceState s → sequence_state s ≡ now → now.failed ≡ false → now.open_picture ≡ None
    → now.history ≡ s.buffer.history
rests s now invariant seen going rest =
    sym (ap (λ (v : SequenceState). v.history) seen)
    ∙ at_rest (history_of s.closed.items) s.buffer.history s.open_picture (ap (λ (v : SequenceState). v.open_picture) seen ∙ rest)
    (invariant (ap (λ (v : SequenceState). v.failed) seen ∙ going)).stands

pub returns-then-is_idr : goal.returns-then-is_idr
returns-then-is_idr c =
    finds_idr c.args.sps.now c.args.header.now c.args.self.now.history c.none-none.result _ (sym c.is_idr.ensures ∙ c.if-is_idr.true) c.none-none.ensures
    (c.of_next.ensures [] c.new.ensures)

pub returns-in_err-missing : goal.returns-in_err-missing
returns-in_err-missing c =
    let told : c.from_residual.result ≡ Err c.in_err-missing.field-0.0 = first_of (search rules, grind arith) in
    rw (rests c.self.inside _ c.self.invariant c.self.view_is c.requires.going c.requires.rest, told)
    (refused_numbers c.args.sps.now c.args.header.now c.self.inside.buffer.history _ (sym c.is_idr.ensures ∙ c.if-is_idr.false) c.in_err-missing.ensures)

pub returns-in_err-poc : goal.returns-in_err-poc
returns-in_err-poc c =
    let told : c.from_residual-in_err-poc.result ≡ Err c.in_err-poc.field-0.0 = first_of (search rules, grind arith) in
    rw (rests c.self.inside _ c.self.invariant c.self.view_is c.requires.going c.requires.rest, told)
    (refused_missing c.args.sps.now c.args.header.now c.self.inside.buffer.history c.in_ok-missing.missing _
    (sym c.is_idr.ensures ∙ c.if-is_idr.false) c.in_ok-missing.ensures
    (c.in_err-poc.ensures ∙ ap (λ l. counts_over (with_missing c.args.sps.now l c.self.inside.buffer.history)) c.copied-2.ensures))

pub returns : goal.returns
returns c =
    let over = counted_over (with_missing c.args.sps.now c.in_ok-missing.missing c.self.inside.buffer.history) _
    (c.in_ok-poc.ensures ∙ ap (λ l. counts_over (with_missing c.args.sps.now l c.self.inside.buffer.history)) c.copied-2.ensures) in
    rw (rests c.self.inside _ c.self.invariant c.self.view_is c.requires.going c.requires.rest)
    (finds_other c.args.sps.now c.args.header.now c.self.inside.buffer.history over.full c.in_ok-missing.missing _ (sym c.is_idr.ensures ∙ c.if-is_idr.false)
    c.in_ok-missing.ensures over.is (c.of_next-2.ensures over.full over.state))
