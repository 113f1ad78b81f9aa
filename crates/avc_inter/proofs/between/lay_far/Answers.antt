use Rattle.avc_inter.proofs.SixRows.{back_before, place_before, below_half, two_words, lines_few, ◌+◌, ◌*◌, ◌/◌, arith, refl, slice_index, ap, ◌∙◌, row_fits, wide_of, strided_as, between_at}
use Rattle.avc_inter.proofs.SixRows.{ℕ, length-replicate, room_is, rows_suffice, quarter_of}
use Rattle.avc_inter.proofs.between.lay_far.Goals as goal

pub fetch_held-requires : goal.fetch_held-requires
fetch_held-requires g c =
    let lanes = c.args.to.lanes in
    let room = rw (← c.count_around.ensures.value) at c.args.extent.enough in (
      below_half,
      (
        place_before _ c.args.at.column,
        (
          place_before _ c.args.at.row,
          (
            omega (arith, lanes.most),
            (
              lines_few _ _ lanes c.count_around.ensures.few,
              omega (arith, room, length-replicate {A = ℕ} g.row.P 0),
            ),
          ),
        ),
      ),
    )

pub quarters-requires : goal.quarters-requires
quarters-requires g c =
    let columns = g.row.L + 5 in
    let room = room_is g.row.L columns c.args.to.lanes c.args.extent.count 0 c.fetch_held.new.patch (λ j low.
    omega (arith, c.args.extent.enough, c.fetch_held.auto.patch, row_fits j columns (16 / g.row.L * (c.args.extent.count + (5 * g.row.L + 15) / 16)) columns low (omega arith))) in
    (two_words, (c.requires, room))

pub returns : goal.returns
returns g c =
    let a = c.args in
    let patch = c.fetch_held.new.patch in
    strided_as {f = λ x y. quarter_of patch (g.row.L + 5) (0 + (y * (g.row.L + 5) + x)) a.beyond.right a.beyond.down} c.quarters.ensures refl (between_at (wide_of a.reference.now) a.at.left _ a.at.top _ g.row.W (16 / g.row.L * a.extent.count)
    (g.row.L + 5) (16 / g.row.L * c.count_around.result) 0 (g.row.L + 5) a.beyond.right a.beyond.down patch (back_before a.at.left a.at.column) (back_before a.at.top a.at.row)
    (λ i j column row. ap (slice_index patch) (omega arith) ∙ c.fetch_held.ensures.at i j column row)
    (omega (arith, a.to.columns)) (rw c.count_around.ensures.value (rows_suffice g.row.L a.to.lanes a.extent.count)))
