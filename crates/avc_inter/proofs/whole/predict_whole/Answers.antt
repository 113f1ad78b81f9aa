use Rattle.avc_inter.proofs.SixRows.{below_half, two_words, arith, refl, room_lent, block_lent, strided_as}
use Rattle.avc_inter.proofs.whole.predict_whole.Goals as goal

pub lay_whole-requires : goal.lay_whole-requires
lay_whole-requires g c =
    let to = c.padded_place-to.ensures in
    let room = room_lent _ _ c.args.x c.args.y g.row.W g.row.H _ _ _ c.padded_rows_mut-rows.ensures.rows c.requires.columns c.requires.rows to.first to.stride in
    (below_half, (two_words, record { apart = omega (arith, c.requires.columns, to.wide); room = room }))

pub returns : goal.returns
returns g c f same =
    block_lent _ _ _ _ _ _ _ _ _ c.padded_rows_mut-rows.ensures.rows c.requires.columns c.requires.rows c.padded_place-to.ensures.first c.padded_place-to.ensures.stride f _
    (strided_as c.lay_whole.ensures refl (λ i j column row. same i j))
