use Rattle.avc_inter.proofs.SixRows.{back_before, place_before, below_half, two_words, lines_few, ◌+◌, ◌*◌, ◌/◌, arith, refl, wide_of, strided_as, there_in, between_at, room_is}
use Rattle.avc_inter.proofs.SixRows.{rows_suffice, quarter_of}
use Rattle.avc_inter.proofs.between.lay_between.Goals as goal

pub find_within-requires : goal.find_within-requires
find_within-requires g c =
    let a = c.args in
    (below_half, (place_before _ a.at.column, (place_before _ a.at.row, (omega (arith, a.to.lanes.most), lines_few _ _ a.to.lanes c.count_around.ensures.few))))

pub quarters-requires : goal.quarters-requires
quarters-requires g c =
    let from = c.in-Some.from in
    let there = there_in _ _ c.in-Some.is c.find_within.ensures _ c.padded_rows.ensures in
    (two_words, (c.requires, room_is g.row.L from.stride c.args.to.lanes c.args.extent.count from.first c.padded_rows.result.now (λ j low. there.row j (rw c.count_around.ensures.value low))))

pub returns-in-Some : goal.returns-in-Some
returns-in-Some g c =
    let a = c.args in
    let from = c.in-Some.from in
    let rows = c.padded_rows.result.now in
    let there = there_in _ _ c.in-Some.is c.find_within.ensures rows c.padded_rows.ensures in
    strided_as {f = λ x y. quarter_of rows from.stride (from.first + (y * from.stride + x)) a.beyond.right a.beyond.down} c.quarters.ensures refl (between_at (wide_of a.reference.now) a.at.left _ a.at.top _ g.row.W (16 / g.row.L * a.extent.count)
    (g.row.L + 5) (16 / g.row.L * c.count_around.result) from.first from.stride a.beyond.right a.beyond.down rows (back_before a.at.left a.at.column) (back_before a.at.top a.at.row)
    there.at (omega (arith, a.to.columns)) (rw c.count_around.ensures.value (rows_suffice g.row.L a.to.lanes a.extent.count)))
