use Rattle.avc_inter.proofs.SixRows.{◌∙◌, half_below}
use Rattle.avc_inter.proofs.five_rows.FiveRows.halves.Goals as goal

pub returns-clause-value : goal.returns-clause-value
returns-clause-value g c k low = c.halves_with.ensures k low ∙ half_below g.row.L c.widened-sixth.result c.requires.sixteen c.requires.rows c.widened-sixth.ensures.value k low
