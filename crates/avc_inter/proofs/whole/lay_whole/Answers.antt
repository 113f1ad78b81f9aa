use Rattle.avc_inter.proofs.SixRows.{refl, ◌∙◌, wide_of, strided_as, there_in, moved_at}
use Rattle.avc_inter.proofs.whole.lay_whole.Goals as goal

pub invariant_of-lines : goal.invariant_of-lines
invariant_of-lines g c = record { there = (there_in _ _ c.in-Some.is c.find_within.ensures _ c.padded_rows.ensures).row }

pub returns-in-Some : goal.returns-in-Some
returns-in-Some g c =
    let there = there_in _ _ c.in-Some.is c.find_within.ensures _ c.padded_rows.ensures in
    strided_as c.copy_lines.ensures refl (λ i j column row. there.at i j column row
    ∙ moved_at (wide_of c.args.plane.now) c.args.from.at.left c.args.from.at.top i j c.args.from.at.column c.args.from.at.row)
