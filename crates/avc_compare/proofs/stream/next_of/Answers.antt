use Rattle.avc_compare.proofs.Comparisons.Streams.{◌≡◌, ◌≤◌, ◌^◌, ap, sym, ◌∙◌, arith, None, Some, true, rules, after_take, by_fault, breaks_then, endless, is_none, last_broken, last_taken}
use Rattle.avc_compare.proofs.Comparisons.Streams.{next_taken, no_memory, reads_same, reads_then, takes_then}
use Rattle.avc_compare.proofs.stream.next_of.Goals as goal

pub returns-in_err-event-clause-err : goal.returns-in_err-event-clause-err
returns-in_err-event-clause-err g c =
    let fault = c.in_err-event.field-0.0 in
    by_fault c.from_residual.result fault _ c.from_residual.ensures.1
    (breaks_then _ _ _ c.args.decoder.now c.steps.decoder c.args.ahead.now c.steps.ahead fault c.steps.invariant.on
    (no_memory c.events_only_grow.ensures _ c.steps.decoder c.steps.ahead fault c.in_err-event.ensures.err))

pub returns-in-Some-clause-ok : goal.returns-in-Some-clause-ok
returns-in-Some-clause-ok g c =
    takes_then _ _ _ c.args.decoder.now c.steps.decoder c.next_event.new.decoder c.args.ahead.now c.steps.ahead c.steps.ahead (Some c.in-Some.event) c.steps.invariant.on
    (next_taken _ c.steps.decoder c.next_event.new.decoder c.steps.ahead (Some c.in-Some.event) (sym c.in-Some.is ∙ c.in_ok-event.ensures.event)
    (c.in_ok-event.ensures.taken ∙ ap (λ o. after_take o c.steps.decoder) c.in-Some.is) (λ none. cc))

pub returns-then-has_ended-clause-ok : goal.returns-then-has_ended-clause-ok
returns-then-has_ended-clause-ok g c =
    let none = is_none c.in_ok-event.field-0 c.in_default.not-Some in
    takes_then _ _ _ c.args.decoder.now c.steps.decoder c.next_event.new.decoder c.args.ahead.now c.steps.ahead c.steps.ahead None c.steps.invariant.on
    (next_taken _ c.steps.decoder c.next_event.new.decoder c.steps.ahead None (sym none ∙ c.in_ok-event.ensures.event)
    (c.in_ok-event.ensures.taken ∙ ap (λ o. after_take o c.steps.decoder) none) (λ is. sym c.has_ended.ensures ∙ c.if-has_ended.true))

pub returns-then-not-branch-clause-ok : goal.returns-then-not-branch-clause-ok
returns-then-not-branch-clause-ok g c =
    let none = is_none c.in_ok-event.field-0 c.in_default.not-Some in
    let same = c.in_ok-event.ensures.taken ∙ ap (λ o. after_take o c.steps.decoder) none in
    let over : c.go_on.new.ahead.ended ≡ true = search rules in
    last_taken _ _ c.args.decoder.now c.go_on.new.decoder c.next_event-then-not-branch.new.decoder c.args.ahead.now c.go_on.new.ahead c.next_event-then-not-branch.result
    c.next_event-then-not-branch.ensures.event c.next_event-then-not-branch.ensures.taken over
    (reads_then _ _ _ c.args.decoder.now c.steps.decoder c.go_on.new.decoder c.args.ahead.now c.steps.ahead c.go_on.new.ahead c.steps.invariant.on
    (reads_then _ _ _ c.steps.decoder c.next_event.new.decoder c.go_on.new.decoder c.steps.ahead c.steps.ahead c.go_on.new.ahead (reads_same _ c.steps.decoder c.next_event.new.decoder c.steps.ahead same) c.in_ok-go_on.ensures.ok))

pub returns-then-not-branch-clause-err : goal.returns-then-not-branch-clause-err
returns-then-not-branch-clause-err g c =
    let none = is_none c.in_ok-event.field-0 c.in_default.not-Some in
    let same = c.in_ok-event.ensures.taken ∙ ap (λ o. after_take o c.steps.decoder) none in
    last_broken c.events_only_grow.ensures _ _ c.args.decoder.now c.go_on.new.decoder c.args.ahead.now c.go_on.new.ahead c.next_event-then-not-branch.result
    c.next_event-then-not-branch.ensures.err
    (reads_then _ _ _ c.args.decoder.now c.steps.decoder c.go_on.new.decoder c.args.ahead.now c.steps.ahead c.go_on.new.ahead c.steps.invariant.on
    (reads_then _ _ _ c.steps.decoder c.next_event.new.decoder c.go_on.new.decoder c.steps.ahead c.steps.ahead c.go_on.new.ahead (reads_same _ c.steps.decoder c.next_event.new.decoder c.steps.ahead same) c.in_ok-go_on.ensures.ok))

pub returns-clause-err : goal.returns-clause-err
returns-clause-err g c =
    let steps : 2 ^ 32 ≤ c.steps._step = omega (arith, c.steps-test.false) in
    breaks_then _ _ _ c.args.decoder.now c.steps.decoder c.args.ahead.now c.steps.ahead _ c.steps.invariant.on
    (endless c.events_only_grow.ensures _ c.steps.decoder c.steps.ahead (omega (arith, steps, c.steps.invariant.many)))
