use Rattle.avc_plane.proofs.PlaneMaps.{all_samples, seen_sample, place_in, arith, ◌≤◌, slice_index}
use Rattle.avc_plane.proofs.plane.Plane.holds_bytes.Goals as goal

pub returns-clause-all : goal.returns-clause-all
returns-clause-all g c = all_samples g.row.PAD c.self.inside.stride c.self.inside.width c.self.inside.height c.self.inside.stored.items c.self.invariant.wide c.self.invariant.long _ c.self.view_is

pub returns-clause-small : goal.returns-clause-small
returns-clause-small g c x y column row =
    let a = c.self.inside in
    let at = place_in g.row.PAD a.stride x y in
    let small : slice_index a.stored.items at ≤ 255 = rw (← c.as_slice.ensures.value) (c.are_bytes.ensures at) in
    omega (arith, small, seen_sample g.row.PAD a.stride a.width a.height a.stored.items c.self.invariant.wide c.self.invariant.long _ c.self.view_is x y 0 column row)
