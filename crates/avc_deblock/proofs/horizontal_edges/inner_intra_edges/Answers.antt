use Rattle.avc_deblock.proofs.FilteredPictures.{◌∙◌, ◌∷◌, [], arith, false, planes_of, Planes, luma_qp_of, chroma_qp_of, three, chroma_same}
use Rattle.avc_deblock.proofs.FilteredPictures.{inside_intra, intra_lines, inner_room, threes}
use Rattle.avc_deblock.proofs.horizontal_edges.inner_intra_edges.Goals as goal

pub returns-clause-lines : goal.returns-clause-lines
returns-clause-lines g c =
    let q = c.args.q.now in
    let column = c.args.place.column in
    let row = c.args.place.row in
    let s : Planes = planes_of c.args.planes.now in
    let chroma = chroma_qp_of c.args.place.chroma_qp_index_offset q q in
    three _ _ _ _ _ _
    (intra_lines column row q false (3 ∷ 3 ∷ 3 ∷ 3 ∷ []) s.luma c.filter_three_luma.new.plane c.requires.intra threes (c.filter_three_luma.ensures (luma_qp_of q q) c.requires.limits.luma))
    (c.horizontal_chroma.ensures.cb chroma c.requires.limits.chroma ∙ chroma_same column row 2 _ _ chroma (inside_intra q false (3 ∷ 3 ∷ 3 ∷ 3 ∷ []) c.requires.intra threes 2 (omega arith)) false s.cb)
    (c.horizontal_chroma.ensures.cr chroma c.requires.limits.chroma ∙ chroma_same column row 2 _ _ chroma (inside_intra q false (3 ∷ 3 ∷ 3 ∷ 3 ∷ []) c.requires.intra threes 2 (omega arith)) false s.cr)

pub returns-clause-room : goal.returns-clause-room
returns-clause-room g c =
    let new : Planes = record { luma = c.filter_three_luma.new.plane; cb = c.horizontal_chroma.new.cb; cr = c.horizontal_chroma.new.cr } in
    inner_room c.args.place.column c.args.place.row c.args.place.chroma_qp_index_offset c.args.q.now (planes_of c.args.planes.now) new (returns-clause-lines g c)
