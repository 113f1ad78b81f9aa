use Rattle.avc_decoder_core.proofs.Sequences.{◌≡◌, ◌∙◌, ap, refl, to_z, of_z, w32, rules, history_of}
use Rattle.avc_decoder_core.proofs.Sequences.{ap₂, sym, Bool, Output, SequenceState, Some}
use Rattle.avc_decoder_core.proofs.Sequences.{at_rest, opened_on, opened_state}
use Rattle.avc_decoder_core.proofs.sequence.Sequence.open.Goals as goal

pub invariant_of-self-2 : goal.invariant_of-self-2
invariant_of-self-2 c = λ going.
    let s = c.self.inside in
    let o = c.in_ok-opening.opening in
    let rest = at_rest (history_of s.closed.items) s.buffer.history s.open_picture
    (ap (λ (v : SequenceState). v.open_picture) c.self.view_is ∙ c.requires.rest) (c.self.invariant c.in_ok-check.ensures.going).stands in
    let back : to_z w32 (of_z w32 o.pic_order_cnt) ≡ o.pic_order_cnt = search rules in
    rw (c.copied.ensures, c.copied-2.ensures, back)
    (opened_state c.args.sps.now c.args.header.now c.args.unit (history_of s.closed.items) s.buffer.history o c.store_missing-stored.new.buffer s.sps
    c.requires.sps c.requires.marking c.requires.reference (rw (← c.in_ok-out.ensures.same) at c.store_missing-stored.ensures).going rest (c.self.invariant c.in_ok-check.ensures.going).set
    (rw (← c.self.view_is) at c.in_ok-opening.ensures) (rw (← c.in_ok-out.ensures.same) at c.store_missing-stored.ensures).history)

pub returns-clause-ok : goal.returns-clause-ok
returns-clause-ok c =
    let s = c.self.inside in
    let rest = at_rest (history_of s.closed.items) s.buffer.history s.open_picture
    (ap (λ (v : SequenceState). v.open_picture) c.self.view_is ∙ c.requires.rest) (c.self.invariant c.in_ok-check.ensures.going).stands in
    let stores = (rw (← c.in_ok-out.ensures.same) at c.store_missing-stored.ensures) in
    let opens =
    opened_on c.args.sps.now c.args.header.now (history_of s.closed.items) s.buffer.history c.in_ok-opening.opening c.store_missing-stored.new.buffer.history rest
    (rw (← c.self.view_is) at c.in_ok-opening.ensures) stores.history in
    rw (c.in_ok-out.ensures.going, c.in_ok-check.ensures.going, c.copied.ensures, c.copied-2.ensures, ← c.self.view_is) (record {
      going = c.in_ok-check.ensures.going;
      state =
          ap₂ (λ (m : Output) (failed : Bool). record { history = history_of s.closed.items; open_picture = Some (record { sps = c.args.sps.now; header = c.args.header.now; unit = c.args.unit }); frames = c.store_missing-stored.new.buffer.frames; output = m; failed = failed })
          stores.output (sym c.in_ok-check.ensures.going);
      stands = rw opens refl;
      pictures = rw (opens, rest) stores.pictures;
    })
