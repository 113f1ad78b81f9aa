use Rattle.std.proofs.Common.{SFits}
use Rattle.avc_inter.proofs.SixRows.{ℕ, ℤ, ◌≡◌, pos, negsuc, ◌+◌, ◌*◌, ◌≤◌, ◌*ℤ◌, to_z, of_z, w32, arith, ints, ap, ◌∙◌, mul-le, IsWithin, back_within}
use Rattle.avc_inter.proofs.weighting.product.Goals as goal

product_within : (v : ℕ) (w : ℤ) → v ≤ 255 → IsWithin 128 w → IsWithin 32640 (pos v *ℤ w)
product_within v (pos a) few p =
    let most : v * a ≤ 255 * 128 = mul-le v a 255 128 few (omega (arith, ints, p.high)) in
    record { low = omega (arith, ints, most); high = omega (arith, ints, most) }
product_within v (negsuc a) few p =
    let most : v * (a + 1) ≤ 255 * 128 = mul-le v (a + 1) 255 128 few (omega (arith, ints, p.low)) in
    record { low = omega (arith, ints, most); high = omega (arith, ints, most) }

small_back : (z : ℤ) → IsWithin 32640 z → to_z w32 (of_z w32 z) ≡ z
small_back z p = omega (arith, ints, p.low, p.high)

small_fits : (z : ℤ) → IsWithin 32640 z → SFits w32 z
small_fits z p = omega (arith, ints, p.low, p.high)

-- the product of a number and a weight that are seen through their bits
module _ (u : ℤ) (v : ℕ) (w : ℤ) (is : u ≡ pos v) (few : v ≤ 255) (p : IsWithin 128 w) where
  factors : to_z w32 (of_z w32 u) *ℤ to_z w32 (of_z w32 w) ≡ pos v *ℤ w
  factors =
      let first : to_z w32 (of_z w32 u) ≡ pos v = omega (arith, ints, is, few) in
      ap (λ z. z *ℤ to_z w32 (of_z w32 w)) first ∙ ap (λ z. pos v *ℤ z) (back_within w p)

  fits : SFits w32 (to_z w32 (of_z w32 u) *ℤ to_z w32 (of_z w32 w))
  fits = rw factors (small_fits _ (product_within v w few p))

  product_is : to_z w32 (of_z w32 (to_z w32 (of_z w32 u) *ℤ to_z w32 (of_z w32 w))) ≡ pos v *ℤ w
  product_is = ap (λ z. to_z w32 (of_z w32 z)) factors ∙ small_back _ (product_within v w few p)

pub overflow_mul-result : goal.overflow_mul-result
overflow_mul-result c = fits _ c.args.sample c.args.weight c.from.ensures (omega arith) c.requires

pub returns-clause-value : goal.returns-clause-value
returns-clause-value c = product_is _ c.args.sample c.args.weight c.from.ensures (omega arith) c.requires

pub returns-clause-small : goal.returns-clause-small
returns-clause-small c =
    let few : c.args.sample ≤ 255 = omega arith in
    rw (product_is _ c.args.sample c.args.weight c.from.ensures few c.requires) (product_within c.args.sample c.args.weight few c.requires)
