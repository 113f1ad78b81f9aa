use Rattle.avc_inter.proofs.SixRows.{◌+◌, ◌*◌, arith, refl, ap, slice_index, ◌∙◌, wide_of, strided_as, back_moved}
use Rattle.avc_inter.proofs.BothRows.{eighth_shown}
use Rattle.avc_inter.proofs.chroma_both.lay_far.Goals as goal

pub returns-clause-cb : goal.returns-clause-cb
returns-clause-cb g c =
    let a = c.args in
    let patch = c.fetch_held.new.patch in
    strided_as c.lay_rows.ensures.cb refl (λ i j column row. eighth_shown (wide_of a.from.cb.now) a.at.left _ a.at.top _ 9 (2 * a.to.pairs + 1) 0 9 a.beyond.right a.beyond.down patch
    (λ i j column row. ap (slice_index patch) (omega arith) ∙ c.fetch_held.ensures.at i j column row)
    (back_moved a.at.left a.at.column) (back_moved a.at.top a.at.row) i j (omega (arith, column, a.to.columns)) (omega (arith, row)))

pub returns-clause-cr : goal.returns-clause-cr
returns-clause-cr g c =
    let a = c.args in
    let patch = c.fetch_held-2.new.patch in
    strided_as c.lay_rows.ensures.cr refl (λ i j column row. eighth_shown (wide_of a.from.cr.now) a.at.left _ a.at.top _ 9 (2 * a.to.pairs + 1) 0 9 a.beyond.right a.beyond.down patch
    (λ i j column row. ap (slice_index patch) (omega arith) ∙ c.fetch_held-2.ensures.at i j column row)
    (back_moved a.at.left a.at.column) (back_moved a.at.top a.at.row) i j (omega (arith, column, a.to.columns)) (omega (arith, row)))
