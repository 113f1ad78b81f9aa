use Rattle.avc_decoder.proofs.Events.{◌≡◌, ◌++◌, Err, List, ℕ, true, length, ap, refl, rules, subst, sym, ◌∙◌, is_err, Machine, IsFeedAnswer}
use Rattle.avc_decoder.proofs.Events.{NoMemory, FeedsUnitIn, Result, kept_fed_unit, kept_refused, machine_of, ok_so, refused_to, some_bytes}
use Rattle.avc_decoder.specs.Machine.{after_feed}
use Rattle.avc_decoder.proofs.Events.{DecodeError}
use Rattle.avc_decoder.proofs.decoder.Decoder.feed_unit.Goals as goal

pub invariant_of-self : goal.invariant_of-self
invariant_of-self g c =
    let d = c.self.inside in
    let fed = ok_so (λ x. FeedsUnitIn g.row.MAX d.running c.args.bytes.now x c.feed_unit-fed.new.running)
    c.feed_unit-fed.result c.stop_at_refusal.result c.in-Ok.fed c.feed_unit-fed.ensures c.stop_at_refusal.ensures.answer c.in-Ok.is
    in
    kept_fed_unit c.with_all-self-inside.result.items c.args.bytes.now d.running c.stop_at_refusal.new.running c.in-Ok.fed
    c.self.invariant c.if-self.false c.with_all-self-inside.ensures
    (subst (FeedsUnitIn g.row.MAX d.running c.args.bytes.now c.in-Ok.fed) (sym c.in-Ok.ensures.kept) fed)

pub invariant_of-self-in-Err : goal.invariant_of-self-in-Err
invariant_of-self-in-Err g c =
    let d = c.self.inside in
    kept_refused c.with_all-self-inside-in-Err.result.items c.args.bytes.now d.ended d.ended d.running c.stop_at_refusal.new.running
    c.self.invariant c.in_ok-check.ensures.going c.if-self.false
    c.with_all-self-inside-in-Err.ensures c.in-Err.ensures.stopped

pub returns-in-Err : goal.returns-in-Err
returns-in-Err g c =
    let d = c.self.inside in
    let bytes = c.with_all-self-inside-in-Err.result.items in
    let taken = length d.taken.items in
    let running = c.stop_at_refusal.new.running in
    let old : Machine = machine_of d.output d.bytes.items d.ended taken (is_err d.running) in
    let new : Machine = machine_of d.output bytes d.ended taken (is_err running) in
    let answer : Result (Prim.Unit {0}) DecodeError = Err c.into.result in
    let e : answer ≡ Err NoMemory = search rules in
    let going = c.in_ok-check.ensures.going in
    let some = sym c.is_empty.ensures ∙ c.if-is_empty.false in
    let failed : is_err running ≡ true = c.in-Err.ensures.stopped in
    subst (λ (m : Machine). IsFeedAnswer m (after_feed c.args.bytes.now m) answer new) c.self.view_is
    (refused_to old (after_feed c.args.bytes.now old) new answer going c.if-self.false
    (some_bytes old c.args.bytes.now some) refl e
    (ap (λ (bs : List ℕ). machine_of d.output bs d.ended taken (is_err running)) c.with_all-self-inside-in-Err.ensures
    ∙ ap (machine_of d.output (d.bytes.items ++ c.args.bytes.now) d.ended taken) failed))
