use Rattle.avc_plane.proofs.PlaneMaps.{seen_set}
use Rattle.avc_plane.proofs.plane.Plane.set.Goals as goal

pub returns : goal.returns
returns g c =
    let a = c.self.inside in
    seen_set g.row.PAD a.stride a.width a.height a.stored.items c.self.invariant.wide c.self.invariant.long _ c.self.view_is c.args.x c.args.y c.args.value c.requires.column c.requires.row
