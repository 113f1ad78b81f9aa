use Rattle.avc_make_headers.proofs.Headers.{ap, append_assoc, drop_of_length-le, at_place, put_all}
use Rattle.avc_make_headers.proofs.part.put_each.Goals as goal

pub loop-part-preserved : goal.loop-part-preserved
loop-part-preserved g c =
    let next = at_place c.args.parts.now c.loop-part.part-index c.part-item.result c.part-item.result c.loop-part-test.true c.part-item.is in
    let put = c.in_ok-put.ensures.1 in
    let fits = rw next at c.loop-part.invariant.fits in
    record { going = ap (λ v. v.failed) put; sum = rw (put, append_assoc) (rw next at c.loop-part.invariant.sum); fits = fits.1 }

pub returns : goal.returns
returns g c =
    let none = drop_of_length-le c.args.parts.now c.loop-part-test.false in
    (c.requires.going, put_all c.args.maker.now c.loop-part.maker _ c.loop-part.invariant.going (rw none at c.loop-part.invariant.sum))

pub put-requires-clause-fits : goal.put-requires-clause-fits
put-requires-clause-fits g c =
    let next = at_place c.args.parts.now c.loop-part.part-index c.part-item.result c.part-item.result c.loop-part-test.true c.part-item.is in
    let fits = rw next at c.loop-part.invariant.fits in
    fits.0
