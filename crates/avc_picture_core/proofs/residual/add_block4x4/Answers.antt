use Rattle.avc_picture_core.proofs.InterTiles.{arith, residual4x4, no_residual, no_level, no_residual_added}
use Rattle.avc_picture_core.proofs.residual.add_block4x4.Goals as goal

pub returns-then-total_coeff-eq0 : goal.returns-then-total_coeff-eq0
returns-then-total_coeff-eq0 g c =
    let none = no_level c.args.levels.now (omega (arith, c.total_coeff.ensures, c.if-total_coeff-eq0.true)) in
    no_residual_added c.args.plane.now c.args.left c.args.top 4 4 (residual4x4 c.args.qp.value c.args.levels.now) c.holds_bytes.ensures.all c.holds_bytes.ensures.small
    (λ x y column row. no_residual c.args.qp.value c.args.levels.now x y none)
