use Rattle.avc_inter.proofs.SixRows.{◌+◌, ◌*◌, arith, refl, wide_of, strided_as, there_in, back_moved, below_half, place_moved}
use Rattle.avc_inter.proofs.BothRows.{eighth_shown}
use Rattle.avc_inter.proofs.chroma_both.lay_eighths.Goals as goal

pub find_within-requires : goal.find_within-requires
find_within-requires g c =
    let a = c.args in
    (below_half, (place_moved _ a.at.column, (place_moved _ a.at.row, (omega arith, omega (arith, a.to.few)))))

pub find_within-requires-2 : goal.find_within-requires-2
find_within-requires-2 g c =
    let a = c.args in
    (below_half, (place_moved _ a.at.column, (place_moved _ a.at.row, (omega arith, omega (arith, a.to.few)))))

pub returns-clause-cb : goal.returns-clause-cb
returns-clause-cb g c =
    let a = c.args in
    let at = c.in-Some.at_cb in
    let rows = c.padded_rows-rows_cb.result.now in
    let there = there_in _ _ c.in-Some.is c.find_within.ensures rows c.padded_rows-rows_cb.ensures in
    strided_as c.lay_both.ensures.cb refl (λ i j column row. eighth_shown (wide_of a.from.cb.now) a.at.left _ a.at.top _ 9 (2 * a.to.pairs + 1)
    at.first at.stride a.beyond.right a.beyond.down rows there.at (back_moved a.at.left a.at.column) (back_moved a.at.top a.at.row)
    i j (omega (arith, column, a.to.columns)) (omega (arith, row)))

pub returns-clause-cr : goal.returns-clause-cr
returns-clause-cr g c =
    let a = c.args in
    let at = c.in-Some-find_within.at_cr in
    let rows = c.padded_rows-rows_cr.result.now in
    let there = there_in _ _ c.in-Some-find_within.is c.find_within-2.ensures rows c.padded_rows-rows_cr.ensures in
    strided_as c.lay_both.ensures.cr refl (λ i j column row. eighth_shown (wide_of a.from.cr.now) a.at.left _ a.at.top _ 9 (2 * a.to.pairs + 1)
    at.first at.stride a.beyond.right a.beyond.down rows there.at (back_moved a.at.left a.at.column) (back_moved a.at.top a.at.row)
    i j (omega (arith, column, a.to.columns)) (omega (arith, row)))
