use Rattle.std.proofs.Common.{ap₂}
use Rattle.avc_inter.proofs.SixRows.{three_words, ◌∙◌, mean_of_two, half_there}
use Rattle.avc_inter.proofs.rows.quarter_row.Goals as goal

pub of-requires : goal.of-requires
of-requires g c = (three_words, c.requires.samples)

pub returns : goal.returns
returns g c k low = c.quarters.ensures k low ∙ ap₂ mean_of_two (c.sixteen-whole.ensures k low) (half_there c.of.ensures k low)
