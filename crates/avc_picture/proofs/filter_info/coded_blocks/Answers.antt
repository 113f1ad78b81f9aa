use Rattle.std.proofs.Common.{ℕ, Bool, eqb, not, true, false, cond, map, ap, refl, ◌∙◌, ◌≡◌, ◌==◌, arith, w8}
use Rattle.std.proofs.lemmas.Simd.{bitmask_splat, bit_mask_l, mask_l-lt}
use Rattle.std.proofs.lemmas.List.{get_or-map, length-map}
use Rattle.avc_deblock.specs.FilterInfo.{has_bit}
use Rattle.avc_picture.proofs.filter_info.coded_blocks.Goals as goal

abbrev is_coded : ℕ → Bool
is_coded count = not (eqb count 0)

as_bit : (b : Bool) → (cond b 1 0 == 1) ≡ b
as_bit true = refl
as_bit false = refl

pub returns : goal.returns
returns c k less =
    let counts = c.args.total_coeffs.now in
    ap (λ mask. has_bit mask k) (bitmask_splat w8 (λ a b. not (eqb a b)) counts 16 0 c.told-total_coeffs (omega arith))
    ∙ ap (λ n. n == 1) (bit_mask_l (map is_coded counts) k)
    ∙ as_bit _
    ∙ get_or-map is_coded counts k 0 false (omega (arith, c.told-total_coeffs))

pub overflow_cast-result : goal.overflow_cast-result
overflow_cast-result c =
    let counts = c.args.total_coeffs.now in
    let many = length-map counts is_coded ∙ c.told-total_coeffs in
    rw (bitmask_splat w8 (λ a b. not (eqb a b)) counts 16 0 c.told-total_coeffs (omega arith)) (omega (arith, rw many at (mask_l-lt (map is_coded counts))))
