use Rattle.avc_plane.proofs.PlaneMaps.{◌≡◌, ◌∙◌, ℕ, ◌+◌, ◌*◌, List, length, arith, sym, ap, slice_index, with_items_is, Plane, with_block}
use Rattle.avc_plane.proofs.PlaneMaps.{inner_plane, IsSameOutside, small, room, stored_rectangle, sizes}
use Rattle.avc_plane.proofs.plane.Plane.store_rectangle.Goals as goal

pub store-requires : goal.store-requires
store-requires g c =
    let a = c.self.inside in
    let r = g.row in
    let size = sizes r.PAD a.stride a.width a.height a.stored.items c.self.invariant.wide c.self.invariant.long _ c.self.view_is in
    let fits = room r.PAD a.stride a.width a.height c.args.left c.args.top r.W r.H a.stored.items c.self.invariant.wide c.self.invariant.long (omega arith) (omega arith) in (
      small r.W r.H r.N (omega (arith, c.self.invariant.narrow)) (omega (arith, c.self.invariant.low)) c.requires.all,
      (λ y low. omega (arith, fits y low, ap length c.deref_mut.ensures.value), (omega arith, c.requires.all)),
    )

pub returns : goal.returns
returns g c =
    let a = c.self.inside in
    let r = g.row in
    let size = sizes r.PAD a.stride a.width a.height a.stored.items c.self.invariant.wide c.self.invariant.long _ c.self.view_is in
    let new = c.store.new.stored in
    let samples = c.args.samples.now in
    let long : length new ≡ a.stored.len = c.store.auto.stored ∙ ap length c.deref_mut.ensures.value ∙ sym a.stored.ok.0 in
    let outside : IsSameOutside r.W r.H ((c.args.top + r.PAD) * a.stride + (c.args.left + r.PAD)) a.stride a.stored.items new =
    λ j none. c.store.ensures.outside j none ∙ ap (λ xs. slice_index xs j) c.deref_mut.ensures.value in
    ap (λ (items : List ℕ). inner_plane r.PAD a.stride a.width a.height items) (with_items_is a.stored new long)
    ∙ stored_rectangle r.PAD a.stride a.width a.height c.args.left c.args.top r.W r.H a.stored.items c.self.invariant.wide c.self.invariant.long (omega arith) (omega arith) new samples
    c.store.ensures.inside outside
    ∙ ap (λ (p : Plane). with_block p c.args.left c.args.top r.W r.H (λ x y. slice_index samples (r.W * y + x))) c.self.view_is
