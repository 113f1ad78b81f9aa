use Rattle.avc_make.proofs.Slices.{append_assoc, ap, drop_of_length-le, drop_more, put_all}
use Rattle.avc_make.proofs.inter_writing.put_indices.Goals as goal

pub loop-index-preserved : goal.loop-index-preserved
loop-index-preserved c =
    let next = drop_more c.args.ref_idx.now c.loop-index.index-index 0 c.loop-index-test.true in
    let put = c.in_ok-te.ensures.1 in
    let within = rw next at c.loop-index.invariant.within in
    record { going = ap (λ v. v.failed) put; sum = rw (put, append_assoc) (rw next at c.loop-index.invariant.sum); within = within.1 }

pub returns : goal.returns
returns c =
    let none = drop_of_length-le c.args.ref_idx.now c.loop-index-test.false in
    (c.requires.going, put_all c.args.maker.now c.loop-index.maker _ c.loop-index.invariant.going (rw none at c.loop-index.invariant.sum))

pub te-requires-clause-within : goal.te-requires-clause-within
te-requires-clause-within c =
    let within = rw (drop_more c.args.ref_idx.now c.loop-index.index-index 0 c.loop-index-test.true) at c.loop-index.invariant.within in
    within.0.0
