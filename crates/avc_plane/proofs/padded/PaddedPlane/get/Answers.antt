use Rattle.avc_plane.proofs.PlaneMaps.{◌∙◌, seen_sample}
use Rattle.avc_plane.proofs.padded.PaddedPlane.get.Goals as goal

pub returns : goal.returns
returns g c =
    let a = c.self.inside in
    c.index.ensures
    ∙ seen_sample g.row.PAD a.stride a.width a.height a.stored.items c.self.invariant.rows.wide c.self.invariant.rows.long _ c.self.view_is c.args.x c.args.y _ c.requires.column c.requires.row
