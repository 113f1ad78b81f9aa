use Rattle.avc_mbsyntax.proofs.SliceDataReading.{◌∙◌}
use Rattle.avc_mbsyntax.proofs.slice_data.SliceData.begin_run.Goals as goal

pub returns-in_ok-read_run-in-Next : goal.returns-in_ok-read_run-in-Next
returns-in_ok-read_run-in-Next c = λ s before f. c.in_ok-read_run-in-Next.ensures.run s before f (f.is_p ∙ c.if-self.true)
