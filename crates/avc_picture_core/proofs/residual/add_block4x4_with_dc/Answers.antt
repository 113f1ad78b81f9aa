use Rattle.avc_picture_core.proofs.InterTiles.{◌≡◌, ℤ, pos, ◌+ℤ◌, arith, ap, ◌∙◌, sym, to_z, of_z, w32, ints, to_z-of_z, ◌>>ℤ◌, matrix}
use Rattle.avc_picture_core.proofs.InterTiles.{residual4x4_with_dc, residual_of_dc, no_level, no_residual_added, residual_same}
use Rattle.avc_picture_core.proofs.residual.add_block4x4_with_dc.Goals as goal

pub returns-then-total_coeff-ne0 : goal.returns-then-total_coeff-ne0
returns-then-total_coeff-ne0 g c =
    let back = to_z-of_z w32 c.args.dc c.ranges.dc in
    c.add_residual4x4.ensures
    ∙ residual_same c.args.plane.now c.args.left c.args.top 4 4 (matrix c.residual4x4_with_dc-values.result) (residual4x4_with_dc c.args.qp.value c.args.dc c.args.levels.now)
    (λ x y column row. c.residual4x4_with_dc-values.ensures.values x y column row
    ∙ ap (λ (z : ℤ). residual4x4_with_dc c.args.qp.value z c.as_array.result.now x y) back
    ∙ ap (λ l. residual4x4_with_dc c.args.qp.value c.args.dc l x y) c.as_array.ensures)

pub returns-then-dc-ne0 : goal.returns-then-dc-ne0
returns-then-dc-ne0 g c =
    let back = to_z-of_z w32 c.args.dc c.ranges.dc in
    let none = no_level c.args.levels.now (sym c.total_coeff.ensures ∙ c.if-total_coeff-ne0.false) in
    let r = c.residual_of_dc.result in
    let same : to_z w32 (of_z w32 r) ≡ r = omega (arith, ints, c.residual_of_dc.ensures.small.low, c.residual_of_dc.ensures.small.high) in
    c.add_level4x4.ensures
    ∙ residual_same c.args.plane.now c.args.left c.args.top 4 4 (λ x y. to_z w32 (of_z w32 r)) (residual4x4_with_dc c.args.qp.value c.args.dc c.args.levels.now)
    (λ x y column row. same ∙ c.residual_of_dc.ensures.values c.args.qp.value c.args.levels.now x y none
    ∙ ap (λ (z : ℤ). residual4x4_with_dc c.args.qp.value z c.args.levels.now x y) back)

pub returns-else-dc-ne0 : goal.returns-else-dc-ne0
returns-else-dc-ne0 g c =
    let none = no_level c.args.levels.now (sym c.total_coeff.ensures ∙ c.if-total_coeff-ne0.false) in
    no_residual_added c.args.plane.now c.args.left c.args.top 4 4 (residual4x4_with_dc c.args.qp.value c.args.dc c.args.levels.now) c.holds_bytes.ensures.all c.holds_bytes.ensures.small
    (λ x y column row. residual_of_dc c.args.qp.value c.args.dc c.args.levels.now x y none
    ∙ ap (λ (z : ℤ). (z +ℤ pos 32) >>ℤ 6) (sym (to_z-of_z w32 c.args.dc c.ranges.dc) ∙ ap (to_z w32) c.if-dc-ne0.false))
