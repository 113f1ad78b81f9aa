use Rattle.avc_picture_core.proofs.InterTiles.{ℕ, ℤ, ◌≡◌, ◌+◌, ◌^◌, ◌+ℤ◌, ◌>>ℤ◌, ◌∙◌, List, [], pos, arith, ints, ap, refl, subst, slice_index_or, to_z, of_z, w32, level, residual4x4_with_dc, residual_of_dc}
use Rattle.avc_transform.specs.Bounds.{IsBelow}
use Rattle.avc_transform.proofs.Residuals.{below_four}
use Rattle.avc_picture_core.proofs.residual.residuals_of_dc.Goals as goal

-- one of them
by_dc : (r v : ℤ) → IsBelow (2 ^ 25) r → IsBelow (2 ^ 27) v
    → ((qp : ℕ) (levels : List ℤ) (x y : ℕ) → ((i : ℕ) → level levels i ≡ pos 0) → r ≡ residual4x4_with_dc qp (to_z w32 (of_z w32 v)) levels x y)
    → to_z w32 (of_z w32 r) ≡ (v +ℤ pos 32 >>ℤ 6)
by_dc r v small below told =
    let back : to_z w32 (of_z w32 r) ≡ r = omega (arith, ints, small.low, small.high) in
    let same : to_z w32 (of_z w32 v) ≡ v = omega (arith, ints, below.low, below.high) in
    back ∙ told 0 [] 0 0 (λ i. refl) ∙ residual_of_dc 0 (to_z w32 (of_z w32 v)) [] 0 0 (λ i. refl) ∙ ap (λ (z : ℤ). z +ℤ pos 32 >>ℤ 6) same

-- as a result it is as small
small_back : (r : ℤ) → IsBelow (2 ^ 25) r → IsBelow (2 ^ 25) (to_z w32 (of_z w32 r))
small_back r small = subst (IsBelow (2 ^ 25)) (omega (arith, ints, small.low, small.high)) small

pub returns-clause-values : goal.returns-clause-values
returns-clause-values g c =
    let first = c.args.first in
    let v = λ (i : ℕ). slice_index_or c.args.values.now i (pos 0) in
    let zeroth : first ≡ first + 0 = omega arith in
    below_four _
    (by_dc _ (v first) c.residual_of_dc.ensures.small (c.requires.small first (omega (arith, c.requires.within))) c.residual_of_dc.ensures.values
    ∙ ap (λ i. v i +ℤ pos 32 >>ℤ 6) zeroth)
    (by_dc _ (v (first + 1)) c.residual_of_dc-2.ensures.small (c.requires.small (first + 1) (omega (arith, c.requires.within))) c.residual_of_dc-2.ensures.values)
    (by_dc _ (v (first + 2)) c.residual_of_dc-3.ensures.small (c.requires.small (first + 2) (omega (arith, c.requires.within))) c.residual_of_dc-3.ensures.values)
    (by_dc _ (v (first + 3)) c.residual_of_dc-4.ensures.small (c.requires.small (first + 3) (omega (arith, c.requires.within))) c.residual_of_dc-4.ensures.values)

pub returns-clause-small : goal.returns-clause-small
returns-clause-small g c =
    below_four _ (small_back _ c.residual_of_dc.ensures.small) (small_back _ c.residual_of_dc-2.ensures.small) (small_back _ c.residual_of_dc-3.ensures.small)
    (small_back _ c.residual_of_dc-4.ensures.small)
