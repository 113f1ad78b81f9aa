use Rattle.avc_transform.proofs.Residuals.{scaled_block}
use Rattle.avc_transform.proofs.block.residual4x4.Goals as goal

pub returns-clause-values : goal.returns-clause-values
returns-clause-values c = c.transformed.ensures.values (scaled_block c.args.qp c.args.levels.now) c.scaled_levels.ensures.values
