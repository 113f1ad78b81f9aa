use Rattle.avc_inter.proofs.SixRows.{three_words, ◌∙◌, sum_there}
use Rattle.avc_inter.proofs.centres.sum_row.Goals as goal

pub of-requires : goal.of-requires
of-requires g c = (three_words, c.requires)

pub returns-clause-value : goal.returns-clause-value
returns-clause-value g c k low = c.sums_of.ensures.value k low ∙ sum_there c.of.ensures k low

pub returns-clause-small : goal.returns-clause-small
returns-clause-small g c = c.sums_of.ensures.small
