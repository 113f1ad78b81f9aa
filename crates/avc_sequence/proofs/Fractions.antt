-- The fraction in lowest terms, by a greatest common divisor.
use Prim.Native.Nat.{◌∣◌}
use Rattle.std.proofs.Common.{◌≡◌, ℕ, zero, suc, ◌<◌, ◌≤◌, ◌/◌, ◌%◌, Bool, true, false, if◌then◌else◌, ap, sym, ◌∙◌, refl, arith, subst}
use Rattle.std.proofs.lemmas.Bool.Decides.{nat_tests}
use Rattle.std.proofs.lemmas.Nat.Gcd.{dvd_of_mod-eq-zero, le_from_IsGcd, le_of_dvd, mod-eq-zero_of_dvd}
use Rattle.std.specs.Int.{IsGcd}
use Rattle.avc_presentation.specs.Presenting.{ratio}
use Rattle.avc_presentation.specs.Ratios.{IsLowest}
use Rattle.avc_presentation.specs.declared.ratio.Ratio.{Ratio}
use Rattle.avc_sequence.specs.Rates.{divides_both, greatest_divisor, lowest}

-- what the test says
both_divided : (d a b : ℕ) → divides_both d a b ≡ true → (a % d ≡ 0) × (b % d ≡ 0)
both_divided d a b is = grind (arith, nat_tests)

divided : (d a b : ℕ) → a % d ≡ 0 → b % d ≡ 0 → divides_both d a b ≡ true
divided d a b first second = grind (arith, nat_tests)

-- the greatest of the numbers up to one that is not below it
one_more : (a b g m : ℕ) → IsGcd a b g → 0 < g → g ≤ suc m → (g ≤ m → greatest_divisor m a b ≡ g) → (it : Bool) → divides_both (suc m) a b ≡ it
    → (if it then suc m else greatest_divisor m a b) ≡ g
one_more a b g m is some le before true holds =
    let parts = both_divided (suc m) a b holds in
    omega (arith, le, le_from_IsGcd a b g (suc m) is some (dvd_of_mod-eq-zero (suc m) parts.0) (dvd_of_mod-eq-zero (suc m) parts.1))
one_more a b g m is some le before false fails = before (omega (arith, le, other))
  where
    other : g ≡ suc m → ⊥
    other same = cc (fails, subst (λ d. divides_both d a b ≡ true) same (divided g a b (mod-eq-zero_of_dvd g is.0) (mod-eq-zero_of_dvd g is.1)))

pub greatest_is : (a b g : ℕ) → IsGcd a b g → 0 < g → (most : ℕ) → g ≤ most → greatest_divisor most a b ≡ g
greatest_is a b g is some zero le = omega (arith, some, le)
greatest_is a b g is some (suc m) le = one_more a b g m is some le (greatest_is a b g is some m) (divides_both (suc m) a b) refl

-- of a number above 0 and another it is above 0
above_none : (b g : ℕ) → 0 < b → g ∣ b → 0 < g
above_none b zero some divides = omega (arith, some, mod-eq-zero_of_dvd zero divides)
above_none b (suc g) some divides = omega arith

same_ratio : (r : Ratio) (n d : ℕ) → r.numerator ≡ n → r.denominator ≡ d → r ≡ ratio n d
same_ratio r n d first second = rw (← first, ← second) refl

pub lowest_is : (a b : ℕ) (r : Ratio) → 0 < b → IsLowest a b r → r ≡ lowest a b
lowest_is a b r some h =
    let same = greatest_is a b h.divisor h.greatest (above_none b h.divisor some h.greatest.1) b (le_of_dvd some h.greatest.1) in
    same_ratio r _ _ (h.numerator_is ∙ ap (λ g. a / g) (sym same)) (h.denominator_is ∙ ap (λ g. b / g) (sym same))
