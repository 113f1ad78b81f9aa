use Rattle.avc_intra.proofs.Predictions.{slice_index, ap, ◌∙◌, arith}
use Rattle.avc_intra.proofs.plane.plane.Goals as goal

pub returns : goal.returns
returns g c p sides shows there x y column row =
    ap (slice_index c.lay_plane_between.new.rows) (omega arith) ∙ (c.lay_plane_between.ensures p sides shows there).inside y row x column
