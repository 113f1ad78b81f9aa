use Rattle.avc_dpb.proofs.EarlyOrder.{append-nil, goes_at_once, is_stored, arith}
use Rattle.avc_dpb.proofs.dpb.place.Goals as goal

pub returns-then-is_full-clause-ok : goal.returns-then-is_full-clause-ok
returns-then-is_full-clause-ok c = grind (arith, append-nil, goes_at_once)

pub returns-clause-ok : goal.returns-clause-ok
returns-clause-ok c = grind (arith, is_stored)
