use Rattle.avc_inter.proofs.SixRows.{arith, ◌∙◌, wide_of, there_in, block_of_same, moved_at}
use Rattle.avc_inter.proofs.whole.set_whole.Goals as goal

pub set_rows-requires : goal.set_rows-requires
set_rows-requires g c = (omega arith, (there_in _ _ c.in-Some.is c.find_within.ensures _ c.padded_rows.ensures).row)

pub returns-in-Some : goal.returns-in-Some
returns-in-Some g c =
    let there = there_in _ _ c.in-Some.is c.find_within.ensures _ c.padded_rows.ensures in
    c.set_rows.ensures ∙ block_of_same g.row.W g.row.H _ _ (λ i j column row. there.at i j (omega (arith, c.args.from.small.few_columns)) row
    ∙ moved_at (wide_of c.args.plane.now) c.args.from.at.left c.args.from.at.top i j c.args.from.at.column c.args.from.at.row)
