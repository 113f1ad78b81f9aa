use Rattle.avc_inter.proofs.SixRows.{arith, ap, refl, slice_index, ◌∙◌, wide_of, strided_as, moved_at, below_half, place_moved, mul-le}
use Rattle.avc_inter.proofs.whole.lay_held.Goals as goal

pub fetch_held-requires : goal.fetch_held-requires
fetch_held-requires g c =
    let small = c.args.from.small in
    let at = c.args.from.at in
    (below_half, (place_moved _ at.column, (place_moved _ at.row, (omega (arith, small.few_columns), (omega (arith, small.few_rows), mul-le g.row.H g.row.W 16 16 small.few_rows small.few_columns)))))

pub returns : goal.returns
returns g c =
    strided_as c.copy_lines.ensures refl (λ i j column row. ap (slice_index c.fetch_held.new.patch) (omega arith) ∙ c.fetch_held.ensures.at i j column row
    ∙ moved_at (wide_of c.args.plane.now) c.args.from.at.left c.args.from.at.top i j c.args.from.at.column c.args.from.at.row)
