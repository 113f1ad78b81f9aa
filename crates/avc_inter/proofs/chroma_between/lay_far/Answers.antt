use Rattle.avc_inter.proofs.SixRows.{◌+◌, ◌*◌, ◌/◌, arith, refl, ap, slice_index, ◌∙◌, row_fits, wide_of, strided_as, back_moved, blend_at, blend_of, places_for, below_half, two_words, lines_few_more, place_moved}
use Rattle.avc_inter.proofs.chroma_between.lay_far.Goals as goal

pub fetch_held-requires : goal.fetch_held-requires
fetch_held-requires g c =
    let r = c.requires in
    let a = c.args in
    (below_half, (place_moved _ a.at.column, (place_moved _ a.at.row, (omega (arith, a.to.lanes.most), (lines_few_more _ _ a.to.lanes r.low, r.patch)))))

pub blend_rows-requires : goal.blend_rows-requires
blend_rows-requires g c =
    let r = c.requires in
    let there = places_for g.row.L (g.row.L + 1) c.args.to.lanes c.args.count 0 c.fetch_held.new.patch (λ j low.
    omega (arith, r.patch, c.fetch_held.auto.patch, row_fits j (g.row.L + 1) (16 / g.row.L * c.args.count + 1) (g.row.L + 1) low (omega arith))) in
    (two_words, (r.room, there))

pub returns : goal.returns
returns g c =
    let a = c.args in
    let patch = c.fetch_held.new.patch in
    let shares = c.new-weights.ensures in
    strided_as {f = λ x y. blend_of c.new-weights.result patch (g.row.L + 1) (0 + (y * (g.row.L + 1) + x))} c.blend_rows.ensures refl (λ i j column row. blend_at (wide_of a.reference.now) a.at.left _ a.at.top _ (g.row.L + 1) (16 / g.row.L * a.count + 1)
    0 (g.row.L + 1) a.beyond.right a.beyond.down patch _ _ _ _ (λ i j column row. ap (slice_index patch) (omega arith) ∙ c.fetch_held.ensures.at i j column row)
    (back_moved a.at.left a.at.column) (back_moved a.at.top a.at.row) shares.here shares.right shares.below shares.across i j (omega (arith, column, a.to.columns)) (omega (arith, row)))
