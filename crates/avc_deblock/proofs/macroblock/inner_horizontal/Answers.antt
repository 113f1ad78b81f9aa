use Rattle.avc_deblock.proofs.FilteredPictures.{arith, planes_of}
use Rattle.avc_deblock.proofs.macroblock.inner_horizontal.Goals as goal

pub inner_edge-requires-else-inner : goal.inner_edge-requires-else-inner
inner_edge-requires-else-inner g c = (omega arith, (omega arith, (omega arith, c.inner_edge.ensures.room c.args.inner.place.column c.args.inner.place.row c.requires)))

pub inner_edge-requires-else-inner-2 : goal.inner_edge-requires-else-inner-2
inner_edge-requires-else-inner-2 g c =
    (omega arith, (omega arith, (omega arith, c.inner_edge-else-inner.ensures.room c.args.inner.place.column c.args.inner.place.row (c.inner_edge.ensures.room c.args.inner.place.column c.args.inner.place.row c.requires))))

pub returns-else-inner-clause-room : goal.returns-else-inner-clause-room
returns-else-inner-clause-room g c column row h =
    c.inner_edge-else-inner-2.ensures.room column row (c.inner_edge-else-inner.ensures.room column row (c.inner_edge.ensures.room column row h))

pub returns-else-inner-clause-lines : goal.returns-else-inner-clause-lines
returns-else-inner-clause-lines g c = grind (arith, planes_of)
