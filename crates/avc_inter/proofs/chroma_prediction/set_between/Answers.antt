use Rattle.avc_inter.proofs.SixRows.{arith, ◌∙◌, block_of_same}
use Rattle.avc_inter.proofs.chroma_prediction.set_between.Goals as goal

pub returns : goal.returns
returns g c =
    c.set_rows.ensures ∙ block_of_same g.row.W g.row.H _ _ (λ i j column row.
    c.lay_eighths.ensures.inside j (omega (arith, row)) i (omega (arith, column, c.requires.block.few_columns)))
