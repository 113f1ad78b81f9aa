use Rattle.avc_params.proofs.ParameterSets.{sym, ◌∙◌, keeps_accepted_pps, keeps_refused_pps}
use Rattle.avc_params.proofs.table.ParamTable.put_pps.Goals as goal

pub invariant_of-self-in-Ok : goal.invariant_of-self-in-Ok
invariant_of-self-in-Ok c =
    keeps_accepted_pps _ _ _ _ _ _ _ _ c.self.invariant c.new.ensures c.with-self-inside.ensures
    (sym c.read_pps.ensures ∙ c.in-Ok.is) c.in_ok-put-in-Ok.ensures.ok

pub invariant_of-self-in-Err : goal.invariant_of-self-in-Err
invariant_of-self-in-Err c =
    keeps_refused_pps _ _ _ _ _ _ _ _ c.self.invariant c.new.ensures c.with-self-inside-in-Err.ensures
    (sym c.read_pps.ensures ∙ c.in-Err.is) c.erase.ensures
