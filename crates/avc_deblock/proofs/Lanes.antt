-- The greater and the less of two rows of lanes, lane by lane.
use Rattle.std.proofs.Common.{ℕ, Bool, List, map, cond, ltb, min, max, length, ap, sym, ◌≡◌, ◌∙◌, ◌<◌, ◌+◌, ◌-◌, ◌%◌, Fits, arith, w16, false}
use Rattle.std.proofs.Math.ListN.{get_or, replicate}
use Rattle.std.proofs.lemmas.Bool.Decides.{nat_tests}
use Rattle.std.specs.Simd.Lanes.{zip2, top, sel_l, Each1}
use Rattle.std.proofs.lemmas.Simd.{tops_compared, length-zip2, get_or-zip2, length-sel_l, get_or-sel_l, get_or-replicate, Each1-get_or}
use Rattle.avc_types.specs.Arithmetic.{distance}

more : (a b : ℕ) → cond (ltb a b) b a ≡ max a b
more a b = grind (arith, nat_tests)

less : (a b : ℕ) → cond (ltb a b) a b ≡ min a b
less a b = grind (arith, nat_tests)

module _ (xs ys : List ℕ) (n k : ℕ) (x_long : length xs ≡ n) (y_long : length ys ≡ n) (low : k < n) where
  -- which of the first is less
  abbrev lower : List Bool
  lower = map (top 15) (zip2 (λ a b. cond (ltb a b) 65535 0) xs ys)

  lower_at : get_or lower k false ≡ ltb (get_or xs k 0) (get_or ys k 0)
  lower_at = ap (λ l. get_or l k false) (tops_compared w16 ltb xs ys) ∙ get_or-zip2 ltb xs ys k 0 0 false (omega (arith, x_long)) (omega (arith, y_long))

  lower_long : length lower ≡ n
  lower_long = ap (λ l. length l) (tops_compared w16 ltb xs ys) ∙ length-zip2 ltb xs ys (x_long ∙ sym y_long) ∙ x_long

  pub greater_long : length (sel_l lower ys xs) ≡ n
  greater_long = length-sel_l lower ys xs (lower_long ∙ sym y_long) (lower_long ∙ sym x_long) ∙ lower_long

  pub less_long : length (sel_l lower xs ys) ≡ n
  less_long = length-sel_l lower xs ys (lower_long ∙ sym x_long) (lower_long ∙ sym y_long) ∙ lower_long

  pub greater_at : get_or (sel_l lower ys xs) k 0 ≡ max (get_or xs k 0) (get_or ys k 0)
  greater_at =
      get_or-sel_l lower ys xs k 0 (omega (arith, lower_long)) (omega (arith, y_long)) (omega (arith, x_long))
      ∙ ap (λ b. cond b (get_or ys k 0) (get_or xs k 0)) lower_at ∙ more _ _

  pub less_at : get_or (sel_l lower xs ys) k 0 ≡ min (get_or xs k 0) (get_or ys k 0)
  less_at =
      get_or-sel_l lower xs ys k 0 (omega (arith, lower_long)) (omega (arith, x_long)) (omega (arith, y_long))
      ∙ ap (λ b. cond b (get_or xs k 0) (get_or ys k 0)) lower_at ∙ less _ _

pub fits_at : (xs : List ℕ) (n k : ℕ) → (length xs ≡ n) × Each1 (Fits w16) xs → k < n → get_or xs k 0 < 65536
fits_at xs n k told low = (Each1-get_or (Fits w16) xs k 0 (omega (arith, low, told.0)) told.1).fits

-- the less of two numbers from the greater
pub apart : (a b : ℕ) → a < 65536 → b < 65536 → (max a b + (65536 - min a b)) % 65536 ≡ distance a b
apart a b a_fits b_fits = grind (arith, nat_tests)

-- and three, or less, from one that is not less
pub beyond : (a : ℕ) → a < 65536 → (max a 3 + 65533) % 65536 ≡ a - 3
beyond a fits = omega (arith, fits)

pub apart_fits : (a b d : ℕ) → a < 65536 → b < 65536 → d ≡ distance a b → d < 65536
apart_fits a b d a_fits b_fits is = grind (arith, nat_tests)

pub splat_at : (n k v : ℕ) → k < n → get_or (replicate n v) k 0 ≡ v
splat_at n k v low = get_or-replicate n k v 0 low
