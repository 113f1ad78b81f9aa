use Rattle.avc_params.proofs.ParameterSets.{◌∙◌, SpsIsInForce, lent, sps_in_force_is}
use Rattle.avc_params.proofs.table.ParamTable.sps.Goals as goal

pub returns-clause-kept : goal.returns-clause-kept
returns-clause-kept c =
    lent (SpsIsInForce c.args.id) _ _ (c.get.ensures ∙ c.self.invariant.sequence c.args.id)
    (sps_in_force_is c.self.inside.units.items c.args.id)
