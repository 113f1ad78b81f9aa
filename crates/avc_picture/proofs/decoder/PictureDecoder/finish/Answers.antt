use Rattle.avc_picture.proofs.Slices.{◌≡◌, None, List, ℕ, subst, sym, ◌∙◌, arith, padded_planes_of, planes_after_slices, CanStandAt, Decoding, end_fault}
use Rattle.avc_picture.proofs.Slices.{start_at, none-of, are-sized, first-at-end, missing-at-end, none-at-end, planes-at-end}
use Rattle.avc_picture.proofs.decoder.PictureDecoder.finish.Goals as goal

pub returns-in-Some-clause-answer : goal.returns-in-Some-clause-answer
returns-in-Some-clause-answer g c = grind (arith, first-at-end)

pub returns-then-self-size_in_mbs-clause-answer : goal.returns-then-self-size_in_mbs-clause-answer
returns-then-self-size_in_mbs-clause-answer g c =
    rw (← c.self.view_is) (missing-at-end (none-of c.in_default.not-Some) c.self.invariant (λ full. c.if-self-size_in_mbs.true (full ∙ sym c.size_in_mbs.ensures)))

pub pad-requires : goal.pad-requires
pad-requires g c =
    let none = none-of c.in_default.not-Some in
    let sized = are-sized none c.self.invariant (c.if-self-size_in_mbs.false ∙ c.size_in_mbs.ensures) c.deblocked.ensures.samples in
    grind arith

pub returns-clause-answer : goal.returns-clause-answer
returns-clause-answer g c =
    let none = none-of c.in_default.not-Some in
    let full = c.if-self-size_in_mbs.false ∙ c.size_in_mbs.ensures in
    subst (λ (v : Decoding g.row.PAD). ((es : List ℕ) → CanStandAt es v → end_fault es v ≡ None)
    × ((es : List ℕ) → CanStandAt es v → padded_planes_of c.pad.result ≡ planes_after_slices (start_at es v) v.slices)) c.self.view_is
    (none-at-end none c.self.invariant full, λ es stand. c.pad.ensures ∙ planes-at-end none c.self.invariant full c.deblocked.ensures.samples es stand)

pub returns-clause-sized : goal.returns-clause-sized
returns-clause-sized g c =
    rw (← c.self.view_is, c.pad.ensures)
    (are-sized (none-of c.in_default.not-Some) c.self.invariant (c.if-self-size_in_mbs.false ∙ c.size_in_mbs.ensures) c.deblocked.ensures.samples)
