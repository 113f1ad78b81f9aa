use Rattle.avc_inter.proofs.SixRows.{arith, ap, ◌∙◌, slice_index}
use Rattle.avc_inter.proofs.eighths.eight_of_both.Goals as goal

pub returns-clause-first : goal.returns-clause-first
returns-clause-first c x low = c.load-2.ensures.before x low ∙ ap (slice_index c.load.new.out) (omega arith) ∙ c.load.ensures.here x low

pub returns-clause-second : goal.returns-clause-second
returns-clause-second c x low = c.load-2.ensures.here x low
