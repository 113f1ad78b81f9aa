use Rattle.avc_picture.proofs.Slices.{◌∙◌, arith, component_size, sample_late}
use Rattle.avc_picture.proofs.macroblocks.Macroblocks.sample.Goals as goal

pub sample_of-requires : goal.sample_of-requires
sample_of-requires g c = grind (arith, component_size)

pub returns : goal.returns
returns g c = rw (← c.self.view_is) (λ coded names holds.
    let asked = rw (← c.self.view_is) at c.requires in
    c.sample_of.ensures ∙ sample_late holds c.self.invariant.kept c.args.component c.args.x c.args.y asked.column asked.row asked.built)
