use Rattle.avc_plane.proofs.PlaneMaps.{refl, seen_row}
use Rattle.avc_plane.proofs.padded.PaddedPlane.row.Goals as goal

pub returns : goal.returns
returns g c =
    let a = c.self.inside in
    seen_row g.row.PAD a.stride a.width a.height a.stored.items c.self.invariant.rows.wide c.self.invariant.rows.long _ c.self.view_is _ c.args.y _ c.deref.ensures.value c.requires refl
