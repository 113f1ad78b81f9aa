use Rattle.avc_inter.proofs.SixRows.{arith, wide_of, strided_as, vector_at, bilinear, below_half, two_words, room_lent, block_lent}
use Rattle.avc_inter.proofs.chroma_prediction.predict_between.Goals as goal

pub lay_eighths-requires : goal.lay_eighths-requires
lay_eighths-requires g c =
    let r = c.requires in
    let to = c.padded_place-to.ensures in
    let room = room_lent _ _ c.args.x c.args.y g.row.W g.row.H _ _ _ c.padded_rows_mut-out.ensures.rows r.target.columns r.target.rows to.first to.stride in
    (below_half, (two_words, (omega arith, (omega arith, λ y low. room y (omega arith)))))

pub lay_eighths-requires-else-this-le4 : goal.lay_eighths-requires-else-this-le4
lay_eighths-requires-else-this-le4 g c =
    let r = c.requires in
    let to = c.padded_place-to.ensures in
    let room = room_lent _ _ c.args.x c.args.y g.row.W g.row.H _ _ _ c.padded_rows_mut-out.ensures.rows r.target.columns r.target.rows to.first to.stride in
    (below_half, (two_words, (omega arith, (omega arith, λ y low. room y (omega arith)))))

pub returns-then-this-eq0 : goal.returns-then-this-eq0
returns-then-this-eq0 g c =
    let to = c.padded_place-to.ensures in
    let at = c.chroma_place-at.ensures in
    let beyond = c.chroma_fraction-beyond.ensures in
    block_lent _ _ _ _ _ _ _ _ _ c.padded_rows_mut-out.ensures.rows c.requires.target.columns c.requires.target.rows to.first to.stride _ _
    (strided_as c.lay_eighths.ensures (omega arith) (λ i j column row. vector_at 3 (bilinear (wide_of c.args.reference.now)) c.args.mv _ _ _ _ _ _
    at.left at.top beyond.right beyond.down i j))

pub returns-else-this-le4 : goal.returns-else-this-le4
returns-else-this-le4 g c =
    let to = c.padded_place-to.ensures in
    let at = c.chroma_place-at.ensures in
    let beyond = c.chroma_fraction-beyond.ensures in
    block_lent _ _ _ _ _ _ _ _ _ c.padded_rows_mut-out.ensures.rows c.requires.target.columns c.requires.target.rows to.first to.stride _ _
    (strided_as c.lay_eighths-else-this-le4.ensures (omega arith) (λ i j column row. vector_at 3 (bilinear (wide_of c.args.reference.now)) c.args.mv _ _ _ _ _ _
    at.left at.top beyond.right beyond.down i j))
