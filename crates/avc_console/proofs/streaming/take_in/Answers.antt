use Rattle.avc_console.proofs.Texts.{◌≡◌, ◌∙◌, ap, arith, by_fault, length}
use Rattle.avc_console.proofs.Waiting.{after_part, stopped_at_last, stopped_in_part, taken_part}
use Rattle.avc_console.proofs.streaming.take_in.Goals as goal

pub returns-in_err-take_part-clause-err : goal.returns-in_err-take_part-clause-err
returns-in_err-take_part-clause-err g c =
    let fault = c.in_err-take_part.field-0.0 in
    let further = c.part_end-behind.ensures.behind c.parts-test.true in
    by_fault c.from_residual.result fault _ c.from_residual.ensures.1
    (stopped_in_part fault (g.T.StreamText.text (g.T.StreamText.number c.args.text.now)) (g.T.StreamText.text (g.T.StreamText.number c.parts.text)) c.text_only_grows.ensures
    (g.T.StreamText.so_far c.args.text.now) (g.T.StreamText.so_far c.parts.text) c.args.piece.now c.parts.begin c.part_end-behind.result _ _ _ _ c.requires.open_end c.requires.short
    (omega (arith, further)) c.parts.invariant.so_far (ap g.T.StreamText.text c.parts.invariant.same) c.parts.invariant.taken c.in_err-take_part.ensures.err)

pub parts-preserved : goal.parts-preserved
parts-preserved g c =
    let further = c.part_end-behind.ensures.behind c.parts-test.true in
    record {
      within = c.part_end-behind.ensures.within;
      same = c.in_ok-take_part.ensures.number ∙ c.parts.invariant.same;
      so_far = c.in_ok-take_part.ensures.so_far
          ∙ after_part (g.T.StreamText.so_far c.args.text.now) (g.T.StreamText.so_far c.parts.text) c.args.piece.now c.parts.begin c.part_end-behind.result c.requires.open_end (omega (arith, further))
          c.parts.invariant.so_far;
      taken = taken_part (g.T.StreamText.text (g.T.StreamText.number c.args.text.now)) (g.T.StreamText.text (g.T.StreamText.number c.parts.text)) (g.T.StreamText.so_far c.args.text.now)
          (g.T.StreamText.so_far c.parts.text) (g.T.StreamText.so_far c.take_part.new.text) _ _ _ _ _ _ c.parts.invariant.taken (ap g.T.StreamText.text c.parts.invariant.same)
          c.in_ok-take_part.ensures.so_far c.in_ok-take_part.ensures.ok;
    }

pub returns-in_err-write_all-clause-err : goal.returns-in_err-write_all-clause-err
returns-in_err-write_all-clause-err g c =
    let fault = c.in_err-write_all.field-0.0 in
    let all : c.parts.begin ≡ length c.args.piece.now = omega (arith, c.parts-test.false, c.parts.invariant.within) in
    by_fault c.from_residual-in_err-write_all.result fault _ c.from_residual-in_err-write_all.ensures.1
    (stopped_at_last fault (g.T.StreamText.text (g.T.StreamText.number c.args.text.now)) (g.T.StreamText.so_far c.args.text.now) (g.T.StreamText.so_far c.parts.text) c.args.piece.now c.parts.begin
    c.parts.waiting.items c.deref.result.now _ _ _ c.parts.invariant.so_far all c.parts.invariant.taken c.deref.ensures.value c.in_err-write_all.ensures.err)
