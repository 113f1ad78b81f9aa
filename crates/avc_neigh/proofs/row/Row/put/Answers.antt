use Rattle.avc_neigh.proofs.Found.{refl, keeps_more}
use Rattle.avc_neigh.proofs.row.Row.put.Goals as goal

pub invariant_of-self : goal.invariant_of-self
invariant_of-self c = rw (c.write.ensures) (keeps_more _ _ _ _ _ _ c.self.invariant _ _ _ c.with-self-inside.ensures c.place_after-self-inside.ensures refl)
