use Rattle.avc_annexb.proofs.Written.{◌∷◌, [], length, length-append, arith, closed_some, units_pushed}
use Rattle.avc_annexb.proofs.ready.Ready.add.Goals as goal

pub returns-clause-holds : goal.returns-clause-holds
returns-clause-holds g c = λ done placed h k.
    rw (closed_some placed.offset placed.bytes (omega (arith, k.len)))
    record {
      units = rw c.in_ok-push_back.ensures.items (units_pushed g.row.MAX c.args.self.now.given.items done placed c.args.self.now.units.items c.into_unit.result h.units (c.into_unit.ensures placed (length done) k h.count));
      count = omega (arith, h.count, length-append done (placed ∷ []), c.saturating_add-self.ensures);
    }
