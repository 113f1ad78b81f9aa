use Rattle.avc_marking.proofs.KeptFrames.{◌+◌, ◌≤◌, arith, inl, inr, nat_tests, numbers_low, alike}
use Rattle.avc_marking.proofs.gaps.are_alike.Goals as goal

pub returns-clause-same : goal.returns-clause-same
returns-clause-same c = λ low.
    let a = c.args in
    let within : c.from.result + c.from-2.result ≤ c.from-3.result = grind (arith, nat_tests, low) in
    numbers_low a.max_frame_num a.other a.count a.first (omega (arith, within)) (omega (arith, within))

pub returns-clause-found : goal.returns-clause-found
returns-clause-found c = λ number below some same.
    let a = c.args in
    elim (alike a.max_frame_num a.other a.count a.first number c.requires below some same) [
      | inl e ↦ absurd (c.if-max_frame_num-other.false e)
      | inr low ↦ grind (arith, nat_tests, low)
    ]
