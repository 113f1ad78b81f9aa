use Rattle.avc_inter.proofs.SixRows.{three_words, ◌∙◌, half_there}
use Rattle.avc_inter.proofs.rows.half_row.Goals as goal

pub of-requires : goal.of-requires
of-requires g c = (three_words, c.requires)

pub returns : goal.returns
returns g c k low = c.halves.ensures k low ∙ half_there c.of.ensures k low
