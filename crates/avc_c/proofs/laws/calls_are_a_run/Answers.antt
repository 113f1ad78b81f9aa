use Rattle.avc_c.proofs.Common.{[], refl}
use Rattle.avc_c.specs.Exports.{opened}
use Rattle.avc_c.proofs.Telling.{run_of}
use Rattle.avc_c.proofs.laws.calls_are_a_run.Goals as goal

pub returns : goal.returns
returns c = λ early calls told last answered. run_of (opened early) [] calls told last (λ going. refl) answered
