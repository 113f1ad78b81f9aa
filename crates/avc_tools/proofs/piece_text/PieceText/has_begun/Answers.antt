use Rattle.avc_tools.proofs.Taking.{ap, sym, ◌∙◌, arith, max_unit, begun_in, either_begun, tells_begun}
use Rattle.avc_tools.proofs.piece_text.PieceText.has_begun.Goals as goal

pub returns-in-Waiting : goal.returns-in-Waiting
returns-in-Waiting c =
    rw (← c.self.view_is) (λ going short. sym (ap begun_in c.in-Waiting.is) ∙ tells_begun max_unit _ _ _ _ (c.self.invariant going) (omega (arith, short)))

pub returns-in-Writing : goal.returns-in-Writing
returns-in-Writing c =
    rw (← c.self.view_is) (λ going short. sym (either_begun _ c.in-Writing.is) ∙ tells_begun max_unit _ _ _ _ (c.self.invariant going) (omega (arith, short)))
