use Rattle.avc_reading.proofs.Read.{ap, sym, ◌∙◌, arith, come, max_unit, tells_begun, tells_near}
use Rattle.avc_reading.proofs.stream.MacroblockLines.has_begun.Goals as goal

pub returns-in-None-OfPicture-clause-begun : goal.returns-in-None-OfPicture-clause-begun
returns-in-None-OfPicture-clause-begun g c =
    rw (← c.self.view_is)
    (λ going short. sym (ap come c.in-None-OfPicture.is-0) ∙ tells_begun _ _ max_unit _ _ _ _ c.in-None-OfPicture.is-1 (c.self.invariant going) (omega (arith, short)))

pub returns-in-Some-OfPicture-clause-begun : goal.returns-in-Some-OfPicture-clause-begun
returns-in-Some-OfPicture-clause-begun g c =
    rw (← c.self.view_is)
    (λ going short. c.has_come.ensures ∙ sym (ap come c.in-Some-OfPicture.is-0)
    ∙ tells_begun _ _ max_unit _ _ _ _ c.in-Some-OfPicture.is-1 (c.self.invariant going) (omega (arith, short)))

pub returns-in_default-Near-clause-begun : goal.returns-in_default-Near-clause-begun
returns-in_default-Near-clause-begun g c =
    rw (← c.self.view_is)
    (λ going short. c.is_some.ensures ∙ tells_near _ _ max_unit _ _ _ _ c.in_default-Near.is-1 (c.self.invariant going) (omega (arith, short)))
