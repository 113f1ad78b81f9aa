use Rattle.avc_decoder.proofs.Events.{◌≡◌, ◌++◌, Err, List, ℕ, true, length, ap, refl, rules, subst, sym, ◌∙◌, is_err, Machine, IsFeedAnswer}
use Rattle.avc_decoder.proofs.Events.{NoMemory, FeedsIn, kept_fed, kept_refused, machine_of, ok_so, refused_to, some_bytes}
use Rattle.avc_decoder.specs.Machine.{after_feed}
use Rattle.avc_decoder.proofs.decoder.Decoder.feed.Goals as goal

pub invariant_of-self : goal.invariant_of-self
invariant_of-self g c =
    let d = c.self.inside in
    kept_refused c.with_all-self-inside.result.items c.args.piece.now d.ended d.ended d.running c.stop_at_refusal.new.running
    c.self.invariant c.in_ok-check.ensures.going c.if-self.false
    c.with_all-self-inside.ensures c.in_err-self-inside.ensures.stopped

pub invariant_of-self-2 : goal.invariant_of-self-2
invariant_of-self-2 g c =
    let d = c.self.inside in
    let f = c.in_ok-self-inside in
    let fed = ok_so (λ read. FeedsIn g.row.MAX d.running c.args.piece.now read c.feed-fed.new.running)
    c.feed-fed.result c.stop_at_refusal.result f.field-0 c.feed-fed.ensures c.stop_at_refusal.ensures.answer f.was
    in
    kept_fed c.with_all-self-inside.result.items c.args.piece.now d.running c.stop_at_refusal.new.running
    c.self.invariant c.if-self.false c.with_all-self-inside.ensures
    (subst (FeedsIn g.row.MAX d.running c.args.piece.now f.field-0) (sym f.ensures.kept) fed)

pub returns-in_err-self-inside : goal.returns-in_err-self-inside
returns-in_err-self-inside g c =
    let d = c.self.inside in
    let bytes = c.with_all-self-inside.result.items in
    let taken = length d.taken.items in
    let running = c.stop_at_refusal.new.running in
    let old : Machine = machine_of d.output d.bytes.items d.ended taken (is_err d.running) in
    let new : Machine = machine_of d.output bytes d.ended taken (is_err running) in
    let e : c.from_residual-in_err-self-inside.result ≡ Err NoMemory = search rules in
    let going = c.in_ok-check.ensures.going in
    let some = sym c.is_empty.ensures ∙ c.if-is_empty.false in
    let failed : is_err running ≡ true = c.in_err-self-inside.ensures.stopped in
    subst (λ (m : Machine). IsFeedAnswer m (after_feed c.args.piece.now m) c.from_residual-in_err-self-inside.result new) c.self.view_is
    (refused_to old (after_feed c.args.piece.now old) new c.from_residual-in_err-self-inside.result going c.if-self.false
    (some_bytes old c.args.piece.now some) refl e
    (ap (λ (bs : List ℕ). machine_of d.output bs d.ended taken (is_err running)) c.with_all-self-inside.ensures
    ∙ ap (machine_of d.output (d.bytes.items ++ c.args.piece.now) d.ended taken) failed))
