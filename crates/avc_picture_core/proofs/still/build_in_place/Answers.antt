use Rattle.std.specs.Prelude.{refl}
use Rattle.avc_neigh.specs.Around.{info_of}
use Rattle.avc_plane.specs.Frames.{planes_of}
use Rattle.avc_picture_core.specs.Canvas.{address_of}
use Rattle.avc_picture_core.specs.CanvasFields.{with_planes}
use Rattle.avc_picture_core.proofs.StillMacroblocks.{built_in_place}
use Rattle.avc_picture_core.proofs.still.build_in_place.Goals as goal

pub returns : goal.returns
returns g c =
    let a = c.args in
    let r = c.requires in
    built_in_place (with_planes a.canvas.now (planes_of a.planes.now)) (address_of a.canvas.now.width a.place) a.mb.now a.info.now (info_of a.sources.now.neighbours)
    a.sources.now.references.now a.place.column a.place.row r.column r.row refl r.sized r.references r.skipped r.still r.samples
    c.holds_bytes.ensures.all c.holds_bytes-2.ensures.all c.holds_bytes-3.ensures.all
    c.holds_bytes.ensures.small c.holds_bytes-2.ensures.small c.holds_bytes-3.ensures.small
