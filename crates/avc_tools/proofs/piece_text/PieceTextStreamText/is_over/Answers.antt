use Rattle.avc_tools.proofs.Taking.{ap, sym, ◌∙◌, arith, max_unit, either_not_over, over_in, tells_over}
use Rattle.avc_tools.proofs.piece_text.PieceTextStreamText.is_over.Goals as goal

pub returns-in-Waiting : goal.returns-in-Waiting
returns-in-Waiting c =
    rw (← c.self.view_is) (λ going short. sym (either_not_over _ c.in-Waiting.is) ∙ tells_over max_unit _ _ _ _ (c.self.invariant going) (omega (arith, short)))

pub returns-in-Over : goal.returns-in-Over
returns-in-Over c =
    rw (← c.self.view_is) (λ going short. sym (ap over_in c.in-Over.is) ∙ tells_over max_unit _ _ _ _ (c.self.invariant going) (omega (arith, short)))
