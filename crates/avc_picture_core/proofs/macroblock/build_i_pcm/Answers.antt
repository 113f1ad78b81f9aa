use Rattle.avc_picture_core.proofs.InterTiles.{planes_of, planes_pcm}
use Rattle.avc_picture_core.proofs.macroblock.build_i_pcm.Goals as goal

pub returns-clause-built : goal.returns-clause-built
returns-clause-built g c = λ p qp qp_of_chroma at.
    planes_pcm p c.args.place.column c.args.place.row qp qp_of_chroma c.args.luma.now c.args.cb.now c.args.cr.now at (planes_of c.args.planes.now) (planes_of c.set_samples.new.planes)
    c.set_samples.ensures.luma c.set_samples.ensures.cb c.set_samples.ensures.cr
