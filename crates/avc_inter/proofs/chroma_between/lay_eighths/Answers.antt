use Rattle.avc_inter.proofs.SixRows.{◌+◌, ◌*◌, ◌/◌, arith, refl, wide_of, strided_as, there_in, back_moved, blend_at, blend_of, places_for, below_half, two_words, lines_few_more, place_moved}
use Rattle.avc_inter.proofs.chroma_between.lay_eighths.Goals as goal

pub find_within-requires : goal.find_within-requires
find_within-requires g c =
    let a = c.args in
    (below_half, (place_moved _ a.at.column, (place_moved _ a.at.row, (omega (arith, a.to.lanes.most), lines_few_more _ _ a.to.lanes c.requires.low))))

pub blend_rows-requires : goal.blend_rows-requires
blend_rows-requires g c =
    let from = c.in-Some.from in
    let rows = c.padded_rows-rows.result.now in
    let there = there_in _ _ c.in-Some.is c.find_within.ensures rows c.padded_rows-rows.ensures in
    (two_words, (c.requires.room, places_for g.row.L from.stride c.args.to.lanes c.args.count from.first rows there.row))

pub returns-in-Some : goal.returns-in-Some
returns-in-Some g c =
    let a = c.args in
    let from = c.in-Some.from in
    let rows = c.padded_rows-rows.result.now in
    let shares = c.new-weights.ensures in
    let there = there_in _ _ c.in-Some.is c.find_within.ensures rows c.padded_rows-rows.ensures in
    strided_as {f = λ x y. blend_of c.new-weights.result rows from.stride (from.first + (y * from.stride + x))} c.blend_rows.ensures refl (λ i j column row. blend_at (wide_of a.reference.now) a.at.left _ a.at.top _ (g.row.L + 1) (16 / g.row.L * a.count + 1)
    from.first from.stride a.beyond.right a.beyond.down rows _ _ _ _ there.at (back_moved a.at.left a.at.column) (back_moved a.at.top a.at.row)
    shares.here shares.right shares.below shares.across i j (omega (arith, column, a.to.columns)) (omega (arith, row)))
