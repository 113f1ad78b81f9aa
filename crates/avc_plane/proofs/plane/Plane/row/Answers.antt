use Rattle.avc_plane.proofs.PlaneMaps.{refl, seen_row}
use Rattle.avc_plane.proofs.plane.Plane.row.Goals as goal

pub returns : goal.returns
returns g c =
    let a = c.self.inside in
    seen_row g.row.PAD a.stride a.width a.height a.stored.items c.self.invariant.wide c.self.invariant.long _ c.self.view_is _ c.args.y _ c.deref.ensures.value c.requires refl
