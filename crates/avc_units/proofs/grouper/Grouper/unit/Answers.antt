use Rattle.avc_units.proofs.grouper.Grouper.unit.Goals as goal

pub returns-clause-step : goal.returns-clause-step
returns-clause-step c = rw (← c.self.view_is, ← c.as_ref.ensures.value) (rw (← c.in_ok-step.ensures.same) at c.step_of-step.ensures.step)
