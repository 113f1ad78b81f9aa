use Rattle.avc_transform.proofs.Residuals.{ℤ, subst, w32, to_z-of_z, AreLines, scaled_block_with_dc}
use Rattle.avc_transform.proofs.block.residual4x4_with_dc.Goals as goal

pub returns-clause-values : goal.returns-clause-values
returns-clause-values c =
    let levels = c.args.levels.now in
    c.transformed.ensures.values (scaled_block_with_dc c.args.qp c.args.dc levels)
    (subst (λ (dc : ℤ). AreLines (scaled_block_with_dc c.args.qp dc levels) c.scaled_levels_with_dc.result) (to_z-of_z w32 c.args.dc c.ranges.dc) c.scaled_levels_with_dc.ensures.values)
