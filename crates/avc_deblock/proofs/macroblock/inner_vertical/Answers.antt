use Rattle.avc_deblock.proofs.FilteredPictures.{arith, planes_of}
use Rattle.avc_deblock.proofs.macroblock.inner_vertical.Goals as goal

pub inner_edge-requires-then-inner : goal.inner_edge-requires-then-inner
inner_edge-requires-then-inner g c = (omega arith, (omega arith, (omega arith, c.inner_edge.ensures.room c.args.inner.place.column c.args.inner.place.row c.requires)))

pub inner_edge-requires-then-inner-2 : goal.inner_edge-requires-then-inner-2
inner_edge-requires-then-inner-2 g c =
    (omega arith, (omega arith, (omega arith, c.inner_edge-then-inner.ensures.room c.args.inner.place.column c.args.inner.place.row (c.inner_edge.ensures.room c.args.inner.place.column c.args.inner.place.row c.requires))))

pub returns-then-inner-clause-room : goal.returns-then-inner-clause-room
returns-then-inner-clause-room g c column row h =
    c.inner_edge-then-inner-2.ensures.room column row (c.inner_edge-then-inner.ensures.room column row (c.inner_edge.ensures.room column row h))

pub returns-then-inner-clause-lines : goal.returns-then-inner-clause-lines
returns-then-inner-clause-lines g c = grind (arith, planes_of)
