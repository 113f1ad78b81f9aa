use Rattle.avc_make.proofs.Slices.{◌≡◌, take, sum, runs_of}
use Rattle.avc_make.proofs.coefficients.Coefficients.zeros.Given as goal

abbrev pub invariant-runs : goal.invariant-runs
invariant-runs l = l.zeros ≡ sum (take l.k (runs_of l.self))
