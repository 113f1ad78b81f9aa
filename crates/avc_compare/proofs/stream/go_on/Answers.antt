use Rattle.avc_compare.proofs.Comparisons.Streams.{◌≡◌, ap, sym, ◌∙◌, [], arith, common_steps, take, after_feed, by_fault, breaks_then, fed, filled, flushed, no_memory, not_read, reads_then}
use Rattle.avc_compare.proofs.stream.go_on.Goals as goal

pub returns-in_err-fill-clause-err : goal.returns-in_err-fill-clause-err
returns-in_err-fill-clause-err g c =
    let fault = c.in_err-fill.field-0.0 in
    by_fault c.from_residual.result fault _ c.from_residual.ensures.1
    (not_read _ _ c.args.decoder.now c.args.ahead.now fault c.in_err-fill.ensures.fault c.in_err-fill.ensures.err c.requires.open_end c.in_err-fill.ensures.none (sym c.requires.none))

pub returns-then-is_empty-clause-ok : goal.returns-then-is_empty-clause-ok
returns-then-is_empty-clause-ok g c =
    let more = c.in_ok-fill.ensures.ok in
    let none : c.fill.new.ahead.bytes ≡ [] = grind (arith, common_steps, c.as_slice.ensures, c.is_empty.ensures, c.if-is_empty.true, c.if-is_empty.ensures) in
    reads_then _ _ _ c.args.decoder.now c.args.decoder.now c.flush.new.decoder c.args.ahead.now c.fill.new.ahead c.end.new.self
    (filled _ _ c.args.decoder.now c.args.ahead.now c.fill.new.ahead c.requires.open_end more)
    (flushed c.events_only_grow.ensures _ c.args.decoder.now c.flush.new.decoder c.fill.new.ahead c.end.new.self (more.ended ∙ c.requires.open_end) none (more.last none) c.in_ok-flush.ensures.ok c.end.ensures)

pub returns-in_err-used-clause-err : goal.returns-in_err-used-clause-err
returns-in_err-used-clause-err g c =
    let fault = c.in_err-used.field-0.0 in
    by_fault c.from_residual-in_err-used.result fault _ c.from_residual-in_err-used.ensures.1
    (breaks_then _ _ _ c.args.decoder.now c.args.decoder.now c.args.ahead.now c.fill.new.ahead fault
    (filled _ _ c.args.decoder.now c.args.ahead.now c.fill.new.ahead c.requires.open_end c.in_ok-fill.ensures.ok)
    (no_memory c.events_only_grow.ensures _ c.args.decoder.now c.fill.new.ahead fault c.in_err-used.ensures.err))

pub returns-clause-ok : goal.returns-clause-ok
returns-clause-ok g c =
    let more = c.in_ok-fill.ensures.ok in
    reads_then _ _ _ c.args.decoder.now c.args.decoder.now c.feed_unit.new.decoder c.args.ahead.now c.fill.new.ahead c.drop_first.new.self
    (filled _ _ c.args.decoder.now c.args.ahead.now c.fill.new.ahead c.requires.open_end more)
    (fed c.events_only_grow.ensures _ c.args.decoder.now c.feed_unit.new.decoder c.fill.new.ahead c.drop_first.new.self c.in_ok-used.used (more.ended ∙ c.requires.open_end)
    (c.in_ok-used.ensures.ok ∙ ap (λ bs. after_feed (take c.in_ok-used.used bs) c.args.decoder.now) c.as_slice-2.ensures) c.drop_first.ensures)
