use Rattle.avc_plane.proofs.PlaneMaps.{◌∙◌, ◌+◌, length, arith, ap, sizes, all_samples, seen_sample, small, room, rectangle_place}
use Rattle.avc_plane.proofs.plane.Plane.rectangle.Goals as goal

pub load-requires : goal.load-requires
load-requires g c =
    let a = c.self.inside in
    let r = g.row in
    let size = sizes r.PAD a.stride a.width a.height a.stored.items c.self.invariant.wide c.self.invariant.long _ c.self.view_is in
    let fits = room r.PAD a.stride a.width a.height c.args.left c.args.top r.W r.H a.stored.items c.self.invariant.wide c.self.invariant.long (omega arith) (omega arith) in (
      small r.W r.H r.N (omega (arith, c.self.invariant.narrow)) (omega (arith, c.self.invariant.low)) c.requires.all,
      (λ y low. omega (arith, fits y low, ap length c.deref.ensures.value), c.requires.all),
    )

pub returns-clause-samples : goal.returns-clause-samples
returns-clause-samples g c x y x_low y_low =
    let a = c.self.inside in
    let r = g.row in
    let wide = c.self.invariant.wide in
    let long = c.self.invariant.long in
    let size = sizes r.PAD a.stride a.width a.height a.stored.items wide long _ c.self.view_is in
    c.load.ensures x y x_low y_low
    ∙ rw (c.deref.ensures.value, rectangle_place r.PAD a.stride a.width a.height c.args.left c.args.top r.W r.H a.stored.items wide long (omega arith) (omega arith) x y)
    (seen_sample r.PAD a.stride a.width a.height a.stored.items wide long _ c.self.view_is (c.args.left + x) (c.args.top + y) 0 (omega arith) (omega arith))

pub returns-clause-all : goal.returns-clause-all
returns-clause-all g c = all_samples g.row.PAD c.self.inside.stride c.self.inside.width c.self.inside.height c.self.inside.stored.items c.self.invariant.wide c.self.invariant.long _ c.self.view_is
