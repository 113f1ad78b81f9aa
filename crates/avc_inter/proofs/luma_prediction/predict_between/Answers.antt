use Rattle.avc_inter.proofs.SixRows.{refl, ◌*◌, ◌/◌, wide_of, strided_as, vector_at, quarter, below_half, one_word, two_words, room_lent, block_lent}
use Rattle.avc_inter.proofs.luma_prediction.predict_between.Goals as goal

pub lay_between-requires : goal.lay_between-requires
lay_between-requires g c =
    let r = c.requires in
    let to = c.padded_place-to.ensures in
    let room = room_lent _ _ c.args.x c.args.y g.row.W (16 / g.row.L * c.args.extent.count) _ _ _ c.padded_rows_mut-out.ensures.rows r.target.columns r.target.rows to.first to.stride in
    (below_half, (one_word, (two_words, room)))

pub returns : goal.returns
returns g c =
    let to = c.padded_place-to.ensures in
    let at = c.luma_place-at.ensures in
    let beyond = c.luma_fraction-beyond.ensures in
    block_lent _ _ _ _ _ _ _ _ _ c.padded_rows_mut-out.ensures.rows c.requires.target.columns c.requires.target.rows to.first to.stride _ _
    (strided_as c.lay_between.ensures refl (λ i j column row. vector_at 2 (quarter (wide_of c.args.reference.now)) c.args.mv _ _ _ _ _ _
    at.left at.top beyond.right beyond.down i j))
