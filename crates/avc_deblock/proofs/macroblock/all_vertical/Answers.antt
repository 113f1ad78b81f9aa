use Rattle.avc_deblock.proofs.FilteredPictures.{arith}
use Rattle.avc_deblock.proofs.macroblock.all_vertical.Goals as goal

pub inner_vertical-requires : goal.inner_vertical-requires
inner_vertical-requires g c = (omega arith, c.outer_edge.ensures.room c.args.inner.place.column c.args.inner.place.row c.requires.room)

pub returns-else-outer-clause-room : goal.returns-else-outer-clause-room
returns-else-outer-clause-room g c column row h = c.inner_vertical.ensures.room column row (c.outer_edge.ensures.room column row h)
