use Rattle.avc_plane.proofs.PlaneMaps.{all_samples}
use Rattle.avc_plane.proofs.padded.PaddedPlane.holds_samples.Goals as goal

pub returns : goal.returns
returns g c =
    let a = c.self.inside in
    all_samples g.row.PAD a.stride a.width a.height a.stored.items c.self.invariant.rows.wide c.self.invariant.rows.long _ c.self.view_is
