use Rattle.avc_run.proofs.Running.{arith, subst, TellsMore, told_both}
use Rattle.avc_run.proofs.digest.tell_other.Goals as goal

pub returns-in-Ok : goal.returns-in-Ok
returns-in-Ok g c =
    let all = told_both _ _ _ _ _ _ _ _ c.tell_more-begun.ensures (told_both _ _ _ _ _ _ _ _ c.tell_more-named.ensures c.tell_more.ensures) in
    subst (λ text. TellsMore c.args.is_told (g.E.Write.contents c.args.errors.now) (g.E.Write.contents c.tell_more.new.errors) text c.tell_more.result) (grind arith) all
