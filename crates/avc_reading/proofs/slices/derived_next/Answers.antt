use Rattle.avc_reading.proofs.Read.{derived_is}
use Rattle.avc_reading.proofs.slices.derived_next.Goals as goal

pub returns : goal.returns
returns c = λ s before known stands rems.
    derived_is c.blocks_are_found.ensures.motion c.blocks_are_found.ensures.modes c.args.constrained_intra_pred s before known c.args.number c.args.row.now _ c.args.mb.now c.derived_of.result
    stands rems c.around.ensures c.derived_of.ensures
