use Rattle.avc_intra.proofs.Predictions.{◌≡◌, ℕ, ◌*◌, ◌/◌, ◌≤◌, ◌<◌, ◌^◌, ℤ, pos, to_z, w32, ◌+ℤ◌, ◌*ℤ◌, ◌>>ℤ◌, arith, ints, ap, ◌∙◌, mul-le-mul_left}
use Rattle.avc_intra.proofs.Predictions.{gradient_fits, gradient_is, gradient_small}
use Rattle.avc_intra.proofs.plane.gradient.Goals as goal

-- at most 272 times 1,020
few : (weight w : ℕ) → weight * w ≤ 272 → weight * (2040 * (w / 2)) ≤ 300000
few weight w product = let even : weight * (2 * (w / 2)) ≤ weight * w = mul-le-mul_left weight (omega arith) in omega (arith, even, product)

pub overflow_add-result : goal.overflow_add-result
overflow_add-result g c =
    let weight : to_z w32 g.row.WEIGHT ≡ pos g.row.WEIGHT = omega (arith, ints, c.requires.weight.0) in
    let half : 2040 * (g.row.W / 2) < 2 ^ 31 = omega (arith, c.requires.narrow) in
    rw weight (gradient_fits g.row.WEIGHT _ c.slope.result (few _ _ c.requires.weight.1) half c.slope.ensures.small)

pub returns : goal.returns
returns g c =
    let weight : to_z w32 g.row.WEIGHT ≡ pos g.row.WEIGHT = omega (arith, ints, c.requires.weight.0) in
    let half : 2040 * (g.row.W / 2) < 2 ^ 31 = omega (arith, c.requires.narrow) in
    let product = few _ _ c.requires.weight.1 in
    rw weight (record {
      value = gradient_is g.row.WEIGHT _ c.slope.result product half c.slope.ensures.small ∙ ap (λ (s : ℤ). pos g.row.WEIGHT *ℤ s +ℤ pos 32 >>ℤ 6) c.slope.ensures.value;
      small = gradient_small g.row.WEIGHT _ c.slope.result product half c.slope.ensures.small;
    })
