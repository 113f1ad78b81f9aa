use Rattle.avc_console.proofs.Texts.{Memory, ap, refl, rules, subst, after_piece, IsStopped, by_fault, stopped_at_end, stopped_at_read, writing_stopped_in, no_piece}
use Rattle.avc_console.proofs.Texts.{same_front, whole_at_end, whole_by_over}
use Rattle.avc_console.proofs.streaming.write_stream.Goals as goal

pub returns-in_err-piece-clause-err : goal.returns-in_err-piece-clause-err
returns-in_err-piece-clause-err g c =
    let fault = c.in_err-piece.field-0.0 in
    by_fault c.from_residual.result fault _ c.from_residual.ensures.1 (no_piece (g.T.StreamText.text (g.T.StreamText.number c.args.text.now)) _ _ fault c.in_err-piece.ensures.err)

pub returns-in_err-waiting-clause-err : goal.returns-in_err-waiting-clause-err
returns-in_err-waiting-clause-err g c =
    by_fault c.from_residual-in_err-waiting.result Memory _ c.from_residual-in_err-waiting.ensures.1 (no_piece (g.T.StreamText.text (g.T.StreamText.number c.args.text.now)) _ _ Memory refl)

pub returns-in_err-len-clause-err : goal.returns-in_err-len-clause-err
returns-in_err-len-clause-err g c =
    let fault = c.in_err-len.field-0.0 in
    by_fault c.from_residual-in_err-len.result fault _ c.from_residual-in_err-len.ensures.1
    (stopped_at_read (g.T.StreamText.text (g.T.StreamText.number c.args.text.now)) fault c.pieces.reads _ _ _ _ _ _ c.pieces.invariant.writes c.in_err-len.ensures.fault c.in_err-len.ensures.err)

pub returns-in_err-finish-clause-err : goal.returns-in_err-finish-clause-err
returns-in_err-finish-clause-err g c =
    let fault = c.in_err-finish.field-0.0 in
    by_fault c.from_residual-in_err-finish.result fault _ c.from_residual-in_err-finish.ensures.1
    (stopped_at_end (g.T.StreamText.text (g.T.StreamText.number c.args.text.now)) (g.T.StreamText.text (g.T.StreamText.number c.pieces.text)) fault c.pieces.reads _ _ _ _ _ _ _ c.in_ok-len.len c.read_once.new.piece c.pieces.invariant.writes (ap g.T.StreamText.text c.pieces.invariant.same)
    (search rules) c.in_ok-len.ensures.bytes (search rules) c.in_err-finish.ensures.err)

pub returns-in_err-take_in-clause-err : goal.returns-in_err-take_in-clause-err
returns-in_err-take_in-clause-err g c =
    let fault = c.in_err-take_in.field-0.0 in
    by_fault c.from_residual-in_err-take_in.result fault _ c.from_residual-in_err-take_in.ensures.1
    (writing_stopped_in (g.T.StreamText.text (g.T.StreamText.number c.args.text.now)) (g.T.StreamText.text (g.T.StreamText.number c.pieces.text)) fault c.pieces.reads _ _ _ _ _ _ _ _ c.pieces.invariant.writes (ap g.T.StreamText.text c.pieces.invariant.same) c.in_ok-len.ensures.bytes
    (subst (λ bs. IsStopped fault (g.T.StreamText.text (g.T.StreamText.number c.pieces.text)) (g.T.StreamText.so_far c.pieces.text) (after_piece (g.T.StreamText.so_far c.pieces.text) bs) (g.W.Write.contents c.pieces.writer) (g.W.Write.contents c.take_in.new.writer))
    (same_front c.in_ok-len.len c.pieces.piece.len c.read_once.new.piece _ c.deref.result.now c.deref.ensures.value c.in_ok-len.ensures.within (search rules)) c.in_err-take_in.ensures.err))

pub returns-then-is_over-clause-ok : goal.returns-then-is_over-clause-ok
returns-then-is_over-clause-ok g c =
    whole_by_over _ _ (g.T.StreamText.over (g.T.StreamText.number c.pieces.text)) c.pieces.reads _ _ _ _ _ c.is_over.result c.pieces.invariant.writes c.pieces-test.true
    (ap g.T.StreamText.over c.pieces.invariant.same) c.is_over.ensures c.if-is_over.true

pub returns-then-len-eq0-clause-ok : goal.returns-then-len-eq0-clause-ok
returns-then-len-eq0-clause-ok g c =
    whole_at_end _ (g.T.StreamText.text (g.T.StreamText.number c.pieces.text)) _ c.pieces.reads _ _ _ _ _ _ _ _ c.in_ok-len.len c.read_once.new.piece c.pieces.invariant.writes c.pieces-test.true
    (ap g.T.StreamText.text c.pieces.invariant.same) (search rules) c.in_ok-len.ensures.bytes (search rules) c.in_ok-finish.ensures.so_far c.in_ok-finish.ensures.ok
