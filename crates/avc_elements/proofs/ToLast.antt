-- The levels of a block up to the last that is not 0, found from the first one on.
use Rattle.std.proofs.Common.{◌≡◌, ◌+◌, ◌<◌, ◌==◌, ℕ, ℤ, pos, negsuc, Bool, false, List, [], ◌∷◌, ◌++◌, length, take, get_or, nat_abs, suc, zero, refl, ap, sym, ◌∙◌, arith, if◌then◌else◌}
use Rattle.std.proofs.lemmas.Bool.Decides.{nat_tests}
use Rattle.std.proofs.lemmas.List.{take_more}
use Rattle.avc_elements.specs.Levels.{in_front, up_to_last}

-- 0 behind others adds nothing
zero_behind : (xs : List ℤ) → up_to_last (xs ++ pos 0 ∷ []) ≡ up_to_last xs
zero_behind [] = refl
zero_behind (x ∷ xs) = ap (in_front x) (zero_behind xs)

-- in front of some levels another stays
front_stays : (x : ℤ) (xs : List ℤ) (l : ℤ) → in_front x (xs ++ l ∷ []) ≡ x ∷ xs ++ l ∷ []
front_stays x [] l = refl
front_stays x (y ∷ ys) l = refl

not_zero : (l : ℤ) → (l ≡ pos 0 → ⊥) → (nat_abs l == 0) ≡ false
not_zero (pos zero) other = absurd (other refl)
not_zero (pos (suc n)) other = grind (arith, nat_tests)
not_zero (negsuc n) other = grind (arith, nat_tests)

-- a level that is not 0 is the last
level_behind : (xs : List ℤ) (l : ℤ) → (l ≡ pos 0 → ⊥) → up_to_last (xs ++ l ∷ []) ≡ xs ++ l ∷ []
level_behind [] l other = ap (λ (b : Bool). if b then [] else l ∷ []) (not_zero l other)
level_behind (x ∷ xs) l other = ap (in_front x) (level_behind xs l other) ∙ front_stays x xs l

pub zero_comes : (levels : List ℤ) (end k : ℕ) → k < length levels → take end levels ≡ up_to_last (take k levels) → get_or levels k (pos 0) ≡ pos 0
    → take end levels ≡ up_to_last (take (k + 1) levels)
zero_comes levels end k within done is =
    done ∙ sym (zero_behind (take k levels)) ∙ ap (λ l. up_to_last (take k levels ++ l ∷ [])) (sym is) ∙ ap up_to_last (sym (take_more levels k (pos 0) within))

pub level_comes : (levels : List ℤ) (k : ℕ) → k < length levels → (get_or levels k (pos 0) ≡ pos 0 → ⊥)
    → take (k + 1) levels ≡ up_to_last (take (k + 1) levels)
level_comes levels k within other =
    take_more levels k (pos 0) within ∙ sym (level_behind (take k levels) (get_or levels k (pos 0)) other) ∙ ap up_to_last (sym (take_more levels k (pos 0) within))
