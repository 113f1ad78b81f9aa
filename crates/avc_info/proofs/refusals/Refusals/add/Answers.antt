use Rattle.avc_info.proofs.RefusalKinds.{kept_more, more_fit}
use Rattle.avc_info.proofs.refusals.Refusals.add.Goals as goal

pub count_in-requires : goal.count_in-requires
count_in-requires c = more_fit c.args.refusal _ _ c.self.invariant

pub invariant_of-self : goal.invariant_of-self
invariant_of-self c = kept_more c.args.refusal _ _ _ _ c.self.invariant c.count_in.ensures c.with-self-inside.ensures
