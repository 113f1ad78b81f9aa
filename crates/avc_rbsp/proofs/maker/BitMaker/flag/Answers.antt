use Rattle.avc_rbsp.proofs.Reading.{ap, ◌∙◌, ◌∷◌, ◌++◌, [], sym, false, filled_bits, filled_by}
use Rattle.avc_rbsp.proofs.maker.BitMaker.flag.Goals as goal

pub invariant_of-self-2 : goal.invariant_of-self-2
invariant_of-self-2 c = λ _. filled_by _ _ _ ((rw (← c.in_ok-self-inside.ensures.same) at c.add_bit-added.ensures) _ (c.self.invariant c.in_ok-check.ensures.going))

pub returns : goal.returns
returns c =
    let more = (rw (← c.in_ok-self-inside.ensures.same) at c.add_bit-added.ensures) _ (c.self.invariant c.in_ok-check.ensures.going) in
    rw (c.in_ok-self-inside.ensures.going, c.in_ok-check.ensures.going) (
      ap (λ v. v.failed) (sym c.self.view_is) ∙ c.in_ok-check.ensures.going,
      ap (λ t. record { bits = t; failed = false }) (filled_bits _ _ _ more ∙ ap (λ v. v.bits ++ c.args.bit ∷ []) c.self.view_is),
    )
