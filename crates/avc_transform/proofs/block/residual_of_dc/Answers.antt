use Rattle.avc_transform.proofs.Residuals.{ℤ, pos, ◌+ℤ◌, ◌∙◌, ap, sym, rules, w32, to_z-of_z, ◌>>ℤ◌, residual_of_dc}
use Rattle.avc_transform.proofs.block.residual_of_dc.Goals as goal

pub returns-clause-values : goal.returns-clause-values
returns-clause-values c qp levels x y none =
    to_z-of_z w32 c.rounded.result (search rules)
    ∙ c.rounded.ensures.value
    ∙ ap (λ (z : ℤ). z +ℤ pos 32 >>ℤ 6) (to_z-of_z w32 c.args.dc c.ranges.dc)
    ∙ sym (residual_of_dc qp c.args.dc levels x y none)
