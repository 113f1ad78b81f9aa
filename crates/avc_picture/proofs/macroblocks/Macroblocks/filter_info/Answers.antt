use Rattle.avc_picture.proofs.Slices.{◌∙◌, ap, kept_info}
use Rattle.avc_picture.proofs.macroblocks.Macroblocks.filter_info.Goals as goal

pub returns-clause-info : goal.returns-clause-info
returns-clause-info g c =
    rw (← c.self.view_is) (c.info.ensures ∙ ap (λ w. kept_info w c.self.inside.filter_rows.info c.args.address) c.self.invariant.filter_width)

pub returns-clause-count : goal.returns-clause-count
returns-clause-count g c = rw (← c.self.view_is) c.self.invariant.kept.filter_count
