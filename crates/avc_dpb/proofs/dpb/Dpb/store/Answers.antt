use Rattle.avc_dpb.proofs.EarlyOrder.{subst, refl, false, Contents, Stores, BumpsWhile, ForRoom, stored}
use Rattle.avc_dpb.proofs.dpb.Dpb.store.Goals as goal

pub returns-clause-ok : goal.returns-clause-ok
returns-clause-ok c =
    let i = c.self.inside in
    let old : Contents = record { slots = i.slots.items; frames = i.frames.items; output = i.output; failed = i.failed } in
    let new : Contents = record { slots = c.bump_while-2.new.slots.items; frames = c.bump_while-2.new.frames.items; output = i.output; failed = false } in
    rw (c.in_ok-keep-3.ensures.going, c.in_ok-keep-2.ensures.going, c.in_ok-keep.ensures.going, c.in_ok-check.ensures.going)
    (subst (λ v. Stores v c.args.frame c.args.arriving.now c.bump_while-2.new.out.items new) c.self.view_is
    (stored old new c.args.arriving.now c.args.frame c.remove_needless.new.slots.items c.bump_while.new.slots.items c.place.new.slots.items c.bump_while-2.new.slots.items
    c.remove_needless.new.frames.items c.bump_while.new.frames.items c.place.new.frames.items c.bump_while-2.new.frames.items
    c.bump_while.new.out.items c.place.new.out.items c.bump_while-2.new.out.items
    c.remove_needless.ensures.slots c.remove_needless.ensures.frames
    (subst (λ l. BumpsWhile (ForRoom c.args.arriving.now) c.remove_needless.new.slots.items c.remove_needless.new.frames.items l
    c.bump_while.new.slots.items c.bump_while.new.frames.items c.bump_while.new.out.items) c.new-out.ensures.items (rw (← c.in_ok-keep.ensures.same) at c.bump_while.ensures.ok))
    (rw (← c.in_ok-keep-2.ensures.same) at c.place.ensures.ok) (rw (← c.in_ok-keep-3.ensures.same) at c.bump_while-2.ensures.ok) refl))
