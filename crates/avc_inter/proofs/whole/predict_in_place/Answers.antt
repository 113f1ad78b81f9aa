use Rattle.avc_inter.proofs.SixRows.{four_words, arith, refl, ◌∙◌, room_lent, block_lent, strided_as, room_inside, sample_inside}
use Rattle.avc_inter.proofs.whole.predict_in_place.Goals as goal

pub invariant_of-lines : goal.invariant_of-lines
invariant_of-lines g c = record { there = room_inside _ c.args.from.plane.now _ c.padded_rows.ensures _ _ _ _ _ _ c.args.from.inside.columns c.args.from.inside.rows c.place_inside.ensures.first c.place_inside.ensures.stride }

pub copy_lines-requires : goal.copy_lines-requires
copy_lines-requires g c =
    let to = c.padded_place-to.ensures in
    let room = room_lent _ _ _ _ _ _ _ _ _ c.padded_rows_mut-rows.ensures.rows c.requires.columns c.requires.rows to.first to.stride in
    (four_words, record { apart = omega (arith, c.requires.columns, to.wide); room = room })

pub returns : goal.returns
returns g c f same =
    block_lent _ _ _ _ _ _ _ _ _ c.padded_rows_mut-rows.ensures.rows c.requires.columns c.requires.rows c.padded_place-to.ensures.first c.padded_place-to.ensures.stride f _
    (strided_as c.copy_lines.ensures refl (λ i j column row.
    sample_inside _ c.args.from.plane.now _ c.padded_rows.ensures _ _ _ _ _ _ c.args.from.inside.columns c.args.from.inside.rows c.place_inside.ensures.first c.place_inside.ensures.stride i j column row ∙ same i j))
