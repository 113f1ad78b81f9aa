use Rattle.avc_inter.proofs.SixRows.{◌≡◌, arith, rules, centre_of, stored, centre_cast, still_sum}
use Rattle.avc_inter.proofs.centres.centres_of.Goals as goal

pub centre-requires-clause-e : goal.centre-requires-clause-e
centre-requires-clause-e c = still_sum _ (c.requires.e c.loop-k.k (omega arith))

pub centre-requires-clause-f : goal.centre-requires-clause-f
centre-requires-clause-f c = still_sum _ (c.requires.f c.loop-k.k (omega arith))

pub centre-requires-clause-g : goal.centre-requires-clause-g
centre-requires-clause-g c = still_sum _ (c.requires.g c.loop-k.k (omega arith))

pub centre-requires-clause-h : goal.centre-requires-clause-h
centre-requires-clause-h c = still_sum _ (c.requires.h c.loop-k.k (omega arith))

pub centre-requires-clause-i : goal.centre-requires-clause-i
centre-requires-clause-i c = still_sum _ (c.requires.i c.loop-k.k (omega arith))

pub centre-requires-clause-j : goal.centre-requires-clause-j
centre-requires-clause-j c = still_sum _ (c.requires.j c.loop-k.k (omega arith))

pub loop-k-preserved : goal.loop-k-preserved
loop-k-preserved c =
    let a = c.args in
    let r = c.requires in
    let l = c.loop-k in
    let new : c.centre.result ≡ centre_of a.e.now a.f.now a.g.now a.h.now a.i.now a.j.now l.k =
    centre_cast _ _ _ _ _ _ _ (r.e l.k (omega arith)) (r.f l.k (omega arith)) (r.g l.k (omega arith))
    (r.h l.k (omega arith)) (r.i l.k (omega arith)) (r.j l.k (omega arith)) c.centre.ensures in
    record {
      long = search rules;
      done = stored (λ k v. v ≡ centre_of a.e.now a.f.now a.g.now a.h.now a.i.now a.j.now k) l.out l.k c.centre.result 0 (omega arith) new l.invariant.done;
    }
