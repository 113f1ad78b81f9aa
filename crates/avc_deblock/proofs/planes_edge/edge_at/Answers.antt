use Rattle.avc_deblock.proofs.FilteredPictures.{planes_of, Planes, luma_qp_of, chroma_qp_of, strength_of, strength_along, room_kept, in_three}
use Rattle.avc_deblock.proofs.planes_edge.edge_at.Goals as goal

pub returns-clause-lines : goal.returns-clause-lines
returns-clause-lines g c =
    let edge = c.args.at.edge in
    let place = c.args.at.place in
    let p = c.args.p.now in
    let q = c.args.q.now in
    let luma = luma_qp_of p q in
    let chroma = chroma_qp_of place.chroma_qp_index_offset p q in
    in_three edge.is_vertical place.column place.row edge.n (strength_along c.args.strengths.now) (strength_of p q edge.is_vertical edge.n)
    luma chroma (planes_of c.args.planes.now) _ _ _ c.requires.strengths.value
    (c.luma_of.ensures luma c.requires.limits.luma)
    (c.chroma_of.ensures.cb chroma c.requires.limits.chroma)
    (c.chroma_of.ensures.cr chroma c.requires.limits.chroma)

pub returns-clause-room : goal.returns-clause-room
returns-clause-room g c =
    let edge = c.args.at.edge in
    let place = c.args.at.place in
    let new : Planes = record { luma = c.luma_of.new.luma; cb = c.chroma_of.new.cb; cr = c.chroma_of.new.cr } in
    room_kept edge.is_vertical place.column place.row edge.n _ _ _ (planes_of c.args.planes.now) new (returns-clause-lines g c)
