use Rattle.avc_params.proofs.ParameterSets.{◌∙◌, PpsIsInForce, lent, pps_in_force_is}
use Rattle.avc_params.proofs.table.ParamTable.pps.Goals as goal

pub returns-clause-kept : goal.returns-clause-kept
returns-clause-kept c =
    lent (PpsIsInForce c.args.id) _ _ (c.get.ensures ∙ c.self.invariant.picture c.args.id)
    (pps_in_force_is c.self.inside.units.items c.args.id)
