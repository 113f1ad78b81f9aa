use Rattle.avc_inter.proofs.SixRows.{◌+◌, ◌*◌, ◌≤◌, arith, ◌∙◌, mul-le-mul_right, block_of_same, rows_cover}
use Rattle.avc_inter.proofs.luma_prediction.set_between.Goals as goal

pub set_rows-requires : goal.set_rows-requires
set_rows-requires g c = (
  omega arith,
  λ y low.
      let last : (y + 1) * g.row.L ≤ g.row.H * g.row.L = mul-le-mul_right g.row.L (omega arith) in
      omega (arith, last, c.requires.last),
)

pub returns : goal.returns
returns g c =
    let r = c.requires in
    c.set_rows.ensures ∙ block_of_same g.row.W g.row.H _ _ (λ i j column row. c.lay_between.ensures.inside j
    (omega (arith, row, rows_cover g.row.L r.lanes c.count_of.result g.row.H (omega (arith, c.count_of.ensures.value)))) i (omega (arith, column, r.columns.1)))
