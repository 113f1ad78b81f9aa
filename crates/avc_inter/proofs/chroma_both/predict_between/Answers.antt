use Rattle.avc_inter.proofs.SixRows.{◌*◌, two_words, five_words, room_lent, block_lent, refl, wide_of, strided_as, vector_at, bilinear}
use Rattle.avc_inter.proofs.chroma_both.predict_between.Goals as goal

pub lay_eighths-requires : goal.lay_eighths-requires
lay_eighths-requires g c =
    let r = c.requires in
    let cb = c.padded_place-to_cb.ensures in
    let cr = c.padded_place-to_cr.ensures in
    let room_cb = room_lent _ _ c.args.x c.args.y g.row.W (2 * c.args.pairs) _ _ _ c.padded_rows_mut-rows_cb.ensures.rows r.target_cb.columns r.target_cb.rows cb.first cb.stride in
    let room_cr = room_lent _ _ c.args.x c.args.y g.row.W (2 * c.args.pairs) _ _ _ c.padded_rows_mut-rows_cr.ensures.rows r.target_cr.columns r.target_cr.rows cr.first cr.stride in
    (two_words, (five_words, (room_cb, room_cr)))

pub returns-clause-cb : goal.returns-clause-cb
returns-clause-cb g c =
    let to = c.padded_place-to_cb.ensures in
    let at = c.chroma_place-at.ensures in
    let beyond = c.chroma_fraction-beyond.ensures in
    block_lent _ _ _ _ _ _ _ _ _ c.padded_rows_mut-rows_cb.ensures.rows c.requires.target_cb.columns c.requires.target_cb.rows to.first to.stride _ _
    (strided_as c.lay_eighths.ensures.cb refl (λ i j column row. vector_at 3 (bilinear (wide_of c.args.from.cb.now)) c.args.mv _ _ _ _ _ _
    at.left at.top beyond.right beyond.down i j))

pub returns-clause-cr : goal.returns-clause-cr
returns-clause-cr g c =
    let to = c.padded_place-to_cr.ensures in
    let at = c.chroma_place-at.ensures in
    let beyond = c.chroma_fraction-beyond.ensures in
    block_lent _ _ _ _ _ _ _ _ _ c.padded_rows_mut-rows_cr.ensures.rows c.requires.target_cr.columns c.requires.target_cr.rows to.first to.stride _ _
    (strided_as c.lay_eighths.ensures.cr refl (λ i j column row. vector_at 3 (bilinear (wide_of c.args.from.cr.now)) c.args.mv _ _ _ _ _ _
    at.left at.top beyond.right beyond.down i j))
