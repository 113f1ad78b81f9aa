use Rattle.avc_inter.proofs.SixRows.{ℕ, ℤ, suc, ◌≡◌, ◌+◌, ◌-◌, ◌^◌, pos, ◌+ℤ◌, ◌*ℤ◌, arith, ap, sym, ◌∙◌, to_z, of_z, w32, ints, ◌>>ℤ◌, clip1, weighted}
use Rattle.avc_inter.proofs.weighting.weighted_sample.Goals as goal

weighted_is : (v d e : ℕ) (w o p p' s t : ℤ) → d ≡ suc e → p ≡ pos v *ℤ w → p' ≡ p → s ≡ (p' +ℤ pos (2 ^ e) >>ℤ (e + 1)) → t ≡ s +ℤ o → clip1 t ≡ weighted d w o v
weighted_is v d e w o p p' s t is_d is_p back is_s is_t =
    let next : e + 1 ≡ suc e = omega arith in
    ap clip1 (is_t ∙ ap (λ z. z +ℤ o) (is_s ∙ ap (λ z. z +ℤ pos (2 ^ e) >>ℤ (e + 1)) (back ∙ is_p) ∙ ap (λ n. pos v *ℤ w +ℤ pos (2 ^ e) >>ℤ n) next))
    ∙ ap (λ n. weighted n w o v) (sym is_d)

pub returns-else-by-eq0 : goal.returns-else-by-eq0
returns-else-by-eq0 c =
    let e = c.args.by.log2_denom - 1 in
    let back : to_z w32 (of_z w32 c.product-value.result) ≡ c.product-value.result = omega (arith, ints) in
    let same_weight : to_z w32 (of_z w32 c.args.by.weight) ≡ c.args.by.weight = omega (arith, ints) in
    let sum : to_z w32 (of_z w32 (to_z w32 (of_z w32 c.scaled.result) +ℤ to_z w32 (of_z w32 c.args.by.offset))) ≡ c.scaled.result +ℤ c.args.by.offset = omega (arith, ints) in
    c.clipped-else-by-eq0.ensures
    ∙ weighted_is c.args.sample c.args.by.log2_denom e c.args.by.weight c.args.by.offset c.product-value.result _ c.scaled.result _ (omega arith) (c.product-value.ensures.value ∙ ap (λ z. pos c.args.sample *ℤ z) same_weight) back (c.scaled.ensures.value e (omega arith)) sum
