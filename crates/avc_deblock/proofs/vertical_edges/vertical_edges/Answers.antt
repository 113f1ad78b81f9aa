use Rattle.avc_deblock.proofs.FilteredPictures.{◌∙◌, ℕ, ◌+◌, ◌*◌, true, ap, planes_of, Plane, Planes, edge_filtered, luma_setting, strength_of}
use Rattle.avc_deblock.proofs.FilteredPictures.{luma_qp_of, three, edges_room}
use Rattle.avc_deblock.proofs.vertical_edges.vertical_edges.Goals as goal

pub returns-clause-lines : goal.returns-clause-lines
returns-clause-lines g c =
    let q = c.args.inner.q.now in
    let next : ℕ → Plane → Plane =
    λ (n : ℕ) (s : Plane). edge_filtered (luma_setting (strength_of q q true n) (luma_qp_of q q)) true (16 * c.args.inner.place.column + 4 * n) (16 * c.args.inner.place.row) 16 s in
    three _ _ _ _ _ _
    (c.inner_luma.ensures ∙ ap (λ (s : Plane). next 3 (next 2 (next 1 s))) c.luma_between.ensures.lines)
    c.chroma_edges.ensures.cb c.chroma_edges.ensures.cr

pub returns-clause-room : goal.returns-clause-room
returns-clause-room g c =
    let new : Planes = record { luma = c.inner_luma.new.luma; cb = c.chroma_edges.new.cb; cr = c.chroma_edges.new.cr } in
    edges_room c.args.inner.place.column c.args.inner.place.row c.args.inner.place.chroma_qp_index_offset c.args.p.now c.args.inner.q.now (planes_of c.args.planes.now) new (returns-clause-lines g c)
