use Rattle.avc_plane.proofs.ShownPlanes.{lent_is}
use Rattle.avc_plane.specs.declared.component.Component.TheVariants.{Luma, Cb, Cr}
use Rattle.avc_plane.proofs.shared.SharedPicture.lent_plane.Goals as goal

pub returns-in-Luma : goal.returns-in-Luma
returns-in-Luma c =
    let p = c.padded-planes.ensures in
    rw c.in-Luma.is (lent_is _ _ c.self.inside.crop c.self.inside.info _ Luma _ _ p.planes c.self.view_is p.subsampled c.requires c.rows_from.ensures)

pub returns-in-Cb : goal.returns-in-Cb
returns-in-Cb c =
    let p = c.padded-planes.ensures in
    rw c.in-Cb.is (lent_is _ _ c.self.inside.crop c.self.inside.info _ Cb _ _ p.planes c.self.view_is p.subsampled c.requires c.rows_from-in-Cb.ensures)

pub returns-in-Cr : goal.returns-in-Cr
returns-in-Cr c =
    let p = c.padded-planes.ensures in
    rw c.in-Cr.is (lent_is _ _ c.self.inside.crop c.self.inside.info _ Cr _ _ p.planes c.self.view_is p.subsampled c.requires c.rows_from-in-Cr.ensures)
