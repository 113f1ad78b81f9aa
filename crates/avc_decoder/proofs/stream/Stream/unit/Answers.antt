use Rattle.avc_decoder.proofs.Events.{ap, not, sym, ◌&&◌, ◌∙◌, closes_and_goes_on, closes_silently, fits_before, fits_closed, stays, works_before}
use Rattle.avc_decoder.proofs.stream.Stream.unit.Goals as goal

-- the open picture stays open, or there is none
pub next-requires-clause-works : goal.next-requires-clause-works
next-requires-clause-works c =
    works_before c.args.self.now.phase c.requires c.in_ok-step.ensures
    (ap (λ b. c.in_ok-step.step.closes && b) (sym c.is_open.ensures) ∙ c.if-not-step-is_open.true)

pub next-requires-clause-fits : goal.next-requires-clause-fits
next-requires-clause-fits c =
    fits_before c.args.self.now.phase c.in_ok-step.ensures
    (ap (λ b. c.in_ok-step.step.closes && b) (sym c.is_open.ensures) ∙ c.if-not-step-is_open.true)

pub returns-then-not-step-is_open-clause-state : goal.returns-then-not-step-is_open-clause-state
returns-then-not-step-is_open-clause-state c =
    stays c.args.self.now c.next.new.stream c.requires.stands c.in_ok-step.ensures
    (ap (λ b. c.in_ok-step.step.closes && b) (sym c.is_open.ensures) ∙ c.if-not-step-is_open.true) c.in_ok-next.ensures

-- it was closed; that was a fault, and nothing comes after it
pub returns-then-is_waiting-step-clause-state : goal.returns-then-is_waiting-step-clause-state
returns-then-is_waiting-step-clause-state c =
    let w = c.in_ok-step.step in
    closes_silently c.args.self.now c.close.new.stream c.requires.stands c.in_ok-step.ensures
    (ap (λ b. w.closes && b) (sym c.is_open.ensures) ∙ c.if-not-step-is_open.false) c.in_ok-close.ensures.state
    (ap (λ b. b && not w.even_after_fault) (sym c.is_waiting.ensures) ∙ c.if-is_waiting-step.true)

-- and then comes what the unit does next
pub next-requires-2-clause-fits : goal.next-requires-2-clause-fits
next-requires-2-clause-fits c =
    fits_closed (record c.args.self.now { table = c.step_in.new.table }) c.close.new.stream c.in_ok-step.step.next
    c.in_ok-close.ensures.state c.in_ok-step.ensures.under

pub returns-clause-state : goal.returns-clause-state
returns-clause-state c =
    let w = c.in_ok-step.step in
    closes_and_goes_on c.args.self.now c.close.new.stream c.next-2.new.stream c.requires.stands c.in_ok-step.ensures
    (ap (λ b. w.closes && b) (sym c.is_open.ensures) ∙ c.if-not-step-is_open.false) c.in_ok-close.ensures.state
    (ap (λ b. b && not w.even_after_fault) (sym c.is_waiting.ensures) ∙ c.if-is_waiting-step.false)
    c.in_ok-next-2.ensures
