use Rattle.avc_picture.proofs.Slices.{Err, sym, ◌∙◌, rules, no-list, p-list, p-places, places-within}
use Rattle.avc_picture.proofs.reference_places.reference_places.Goals as goal

pub returns-then-not-is_p-clause-list : goal.returns-then-not-is_p-clause-list
returns-then-not-is_p-clause-list g c = λ pps es stand.
    no-list c.args.sps.now pps es c.args.frames.now c.args.header.now (sym c.is_p.ensures ∙ c.if-not-is_p.true)

pub returns-in_err-list-clause-list : goal.returns-in_err-list-clause-list
returns-in_err-list-clause-list g c = λ pps es stand.
    let fault = p-list c.args.sps.now pps es c.args.frames.now c.args.header.now (Err c.in_err-list.field-0.0) (sym c.is_p.ensures ∙ c.if-not-is_p.false) stand c.in_err-list.ensures.list in
    search rules

pub returns-clause-within : goal.returns-clause-within
returns-clause-within g c =
    places-within c.args.frames.now c.in_ok-list.list c.places_of.result c.places_of.ensures.long c.places_of.ensures.each c.in_ok-list.ensures.within

pub returns-clause-list : goal.returns-clause-list
returns-clause-list g c = λ pps es stand.
    p-places c.args.sps.now pps es c.args.frames.now c.args.header.now c.in_ok-list.list c.places_of.result c.requires.count (sym c.is_p.ensures ∙ c.if-not-is_p.false) stand
    c.in_ok-list.ensures.list c.places_of.ensures.long c.places_of.ensures.each
