-- The residual of a block: its numbers are small, its tables are the standard's, and worked values.
pub mod Common
unfoldable pub use Common.*

-- ---- what holds of each of a few numbers

-- what holds at 0, 1, 2 and 3 holds below 4
pub below_four : (P : ℕ → Type 0) → P 0 → P 1 → P 2 → P 3 → (x : ℕ) → x < 4 → P x
below_four P a b c d zero h = a
below_four P a b c d (suc zero) h = b
below_four P a b c d (suc (suc zero)) h = c
below_four P a b c d (suc (suc (suc zero))) h = d
below_four P a b c d (suc (suc (suc (suc x)))) h = absurd (omega arith)

pub below_two : (P : ℕ → Type 0) → P 0 → P 1 → (x : ℕ) → x < 2 → P x
below_two P a b zero h = a
below_two P a b (suc zero) h = b
below_two P a b (suc (suc x)) h = absurd (omega arith)

-- ---- numbers that are small enough for their 32 bits

pub IsBelow-more : (m n : ℕ) (z : ℤ) → m ≤ n → IsBelow m z → IsBelow n z
IsBelow-more m n z h small = record { low = omega (arith, ints); high = omega (arith, ints) }

pub IsBelow-add : (m n : ℕ) (a b : ℤ) → IsBelow m a → IsBelow n b → IsBelow (m + n) (a +ℤ b)
IsBelow-add m n a b p q = record { low = omega (arith, ints); high = omega (arith, ints) }

pub IsBelow-sub : (m n : ℕ) (a b : ℤ) → IsBelow m a → IsBelow n b → IsBelow (m + n) (a -ℤ b)
IsBelow-sub m n a b p q = record { low = omega (arith, ints); high = omega (arith, ints) }

pub AllBelow-more : {c m n : ℕ} (l : List ℤ) → m ≤ n → AllBelow c m l → AllBelow c n l
AllBelow-more {c} {m} {n} l h all i less = IsBelow-more m n (slice_index_or l i (pos 0)) h (all i less)

pub more_lines : {m n : ℕ} (l : Lines) → m ≤ n → AreBelow m l → AreBelow n l
more_lines l le all = record {
  zeroth = AllBelow-more l.d0 le all.zeroth;
  first = AllBelow-more l.d1 le all.first;
  second = AllBelow-more l.d2 le all.second;
  third = AllBelow-more l.d3 le all.third;
}

-- a small number is what its 32 bits say
pub cast_small : {n : ℕ} {z : ℤ} → n ≤ 2 ^ 31 → IsBelow n z → to_z w32 (of_z w32 z) ≡ z
cast_small {n} {z} h small = omega (arith, ints)

pub small_cast : {n : ℕ} {z : ℤ} → n ≤ 2 ^ 31 → IsBelow n z → IsBelow n (to_z w32 (of_z w32 z))
small_cast {n} {z} h small = rw (cast_small h small) small

pub still_small : {m n : ℕ} {z : ℤ} → m ≤ 2 ^ 31 → IsBelow m z → IsBelow n z → IsBelow n (to_z w32 (of_z w32 z))
still_small h small all = rw (cast_small h small) all

pub fits_below : {n : ℕ} {z : ℤ} → n ≤ 2 ^ 31 → IsBelow n z → FitsSigned w32 z
fits_below {n} {z} h small = search (arith, ints)

-- what a function gives for a small number that passes through its bits, and back
pub passed : (f : ℤ → ℤ) {m n : ℕ} {d r : ℤ} → m ≤ 2 ^ 31 → n ≤ 2 ^ 31 → IsBelow m d → IsBelow n r → r ≡ f (to_z w32 (of_z w32 d)) → to_z w32 (of_z w32 r) ≡ f d
passed f few many p q e = cast_small many q ∙ e ∙ ap f (cast_small few p)

IsBelow-abs : (n : ℕ) (z : ℤ) → unsigned_abs z < n → IsBelow n z
IsBelow-abs n (pos a) h = record { low = omega (arith, ints); high = omega (arith, ints) }
IsBelow-abs n (negsuc a) h = record { low = omega (arith, ints); high = omega (arith, ints) }

abs-IsBelow : (n : ℕ) (z : ℤ) → IsBelow n z → unsigned_abs z < n
abs-IsBelow n (pos a) h = omega (arith, ints)
abs-IsBelow n (negsuc a) h = omega (arith, ints)

pub IsBelow-mul : (m n : ℕ) (z : ℤ) (k : ℕ) → IsBelow m z → k < n → IsBelow (m * n) (z *ℤ pos k)
IsBelow-mul m n z k small h = IsBelow-abs (m * n) (z *ℤ pos k) (rw unsigned_abs-mul (mul-lt (unsigned_abs z) k m n (abs-IsBelow m z small) h))

-- a level is what its sixteen bits say, and so in thirty-two
pub level_back : (z : ℤ) → IsBelow (2 ^ 12) z → to_z w16 (of_z w16 z) ≡ z
level_back z small = omega (arith, ints)

pub level_read : (l r : ℤ) → IsBelow (2 ^ 12) l → r ≡ to_z w16 (of_z w16 l) → to_z w32 (of_z w32 r) ≡ l
level_read l r small told = omega (arith, ints)

-- and is small in thirty-two
pub level_below : {n : ℕ} (l r : ℤ) → 2 ^ 12 ≤ n → IsBelow (2 ^ 12) l → r ≡ to_z w16 (of_z w16 l) → IsBelow n (to_z w32 (of_z w32 r))
level_below l r more small told = rw (level_read l r small told) (IsBelow-more _ _ l more small)

pub level_stored : (z : ℤ) → IsBelow (2 ^ 12) z → IsBelow (2 ^ 12) (to_z w16 (of_z w16 z))
level_stored z small = rw (level_back z small) small

-- four levels of a list, as sixteen bits
pub four_levels : {n : ℕ} (l : List ℤ) → AllBelow n (2 ^ 12) l → (a b d e : ℕ) → a < n → b < n → d < n → e < n →
    AllBelow 4 (2 ^ 12)
    (to_z w16 (of_z w16 (level l a)) ∷ to_z w16 (of_z w16 (level l b)) ∷ to_z w16 (of_z w16 (level l d)) ∷ to_z w16 (of_z w16 (level l e)) ∷ [])
four_levels l all a b d e ha hb hd he =
    below_four _ (level_stored _ (all a ha)) (level_stored _ (all b hb)) (level_stored _ (all d hd)) (level_stored _ (all e he))

pub four_back : (c l r : ℕ → ℤ) → ((y : ℕ) → y < 4 → r y ≡ l y) → ((y : ℕ) → y < 4 → l y ≡ c y) → (y : ℕ) → y < 4 → r y ≡ c y
four_back c l r told back y h = told y h ∙ back y h

-- one factor after the other
neg_times : (m b : ℕ) → neg_ℤ (pos m) *ℤ pos b ≡ neg_ℤ (pos (m * b))
neg_times zero b = rw zero-mul
neg_times (suc m) b = refl

pub times_times : (z : ℤ) (a b : ℕ) → z *ℤ pos a *ℤ pos b ≡ z *ℤ pos (a * b)
times_times (pos n) a b = ap pos (mul_assoc n a b)
times_times (negsuc n) a b = neg_times (suc n * a) b ∙ ap (λ m. neg_ℤ (pos m)) (mul_assoc (suc n) a b)

-- a level times its scale, which was raised before
pub scaled_of : (qp : ℕ) (c : ℤ) (x y : ℕ) {l r : ℤ} {s : ℕ} → r ≡ l *ℤ pos s → l ≡ c → s ≡ level_scale (qp % 6) x y * 2 ^ (qp / 6) → r ≡ scaled qp c x y
scaled_of qp c x y told el es = rw (told, el, es) (sym (times_times c (level_scale (qp % 6) x y) (2 ^ (qp / 6))))

pub scaled_line : (qp x : ℕ) (c l r : ℕ → ℤ) (s : ℕ → ℕ) → ((y : ℕ) → y < 4 → r y ≡ l y *ℤ pos (s y)) → ((y : ℕ) → y < 4 → l y ≡ c y)
    → ((y : ℕ) → y < 4 → s y ≡ level_scale (qp % 6) x y * 2 ^ (qp / 6)) → (y : ℕ) → y < 4 → r y ≡ scaled qp (c y) x y
scaled_line qp x c l r s told el es y h = scaled_of qp (c y) x y (told y h) (el y h) (es y h)

-- ---- the DC values of luma and of chroma

-- a factor goes out of both a number and what divides it
fewer : (m n : ℕ) (w z : ℤ) → z ≡ w *ℤ pos (suc m) → shr_z z (suc m * n) ≡ shr_z w n
fewer m n (pos a) z told =
    rw told (ap pos (sym (div-div-eq-div-mul (a * suc m) (suc m) n) ∙ ap (λ b. b / n) (mul-div_cancel a (omega arith))))
fewer m n (negsuc a) z told =
    let product : suc a * suc m ≡ suc (a * suc m + m) = omega arith in
    let below : z ≡ negsuc (a * suc m + m) = told ∙ ap (λ k. neg_ℤ (pos k)) product in
    rw below (ap negsuc (sym (div-div-eq-div-mul (a * suc m + m) (suc m) n) ∙ ap (λ b. b / n) (div-mul-add a (suc m) m (omega arith))))

-- a shift by two by its two bounds
quarter_low : (z : ℤ) → (pos 4 *ℤ (z >>ℤ 2)) ≤ℤ z
quarter_low (pos a) = omega (arith, ints)
quarter_low (negsuc a) = omega (arith, ints)

quarter_high : (z : ℤ) → z <ℤ (pos 4 *ℤ (z >>ℤ 2) +ℤ pos 4)
quarter_high (pos a) = omega (arith, ints)
quarter_high (negsuc a) = omega (arith, ints)

-- a quarter of what is raised by QP / 6, rounded, is what the standard shifts right
quarter_right : (q : ℕ) (z : ℤ) → q < 6 → (z *ℤ pos (2 ^ q) +ℤ pos 2 >>ℤ 2) ≡ (z *ℤ pos 16 +ℤ pos (2 ^ (5 - q)) >>ℤ 6 - q)
quarter_right zero z h = sym (fewer 15 4 _ _ (omega (arith, ints)))
quarter_right (suc zero) z h = sym (fewer 7 4 _ _ (omega (arith, ints)))
quarter_right (suc (suc zero)) z h = sym (fewer 3 4 _ _ (omega (arith, ints)))
quarter_right (suc (suc (suc zero))) z h = sym (fewer 1 4 _ _ (omega (arith, ints)))
quarter_right (suc (suc (suc (suc zero)))) z h = refl
quarter_right (suc (suc (suc (suc (suc zero))))) z h = fewer 1 2 _ _ (omega (arith, ints))
quarter_right (suc (suc (suc (suc (suc (suc q)))))) z h = absurd (omega (arith, h))

-- or left
quarter_left : (e : ℕ) (z : ℤ) → e < 3 → (z *ℤ pos (2 ^ (6 + e)) +ℤ pos 2 >>ℤ 2) ≡ z *ℤ pos 16 *ℤ pos (2 ^ e)
quarter_left zero z h = omega (arith, ints, quarter_low (z *ℤ pos 64 +ℤ pos 2), quarter_high (z *ℤ pos 64 +ℤ pos 2))
quarter_left (suc zero) z h = omega (arith, ints, quarter_low (z *ℤ pos 128 +ℤ pos 2), quarter_high (z *ℤ pos 128 +ℤ pos 2))
quarter_left (suc (suc zero)) z h = omega (arith, ints, quarter_low (z *ℤ pos 256 +ℤ pos 2), quarter_high (z *ℤ pos 256 +ℤ pos 2))
quarter_left (suc (suc (suc e))) z h = absurd (omega (arith, h))

-- the scale of the first place, raised
even_small : (m : ℕ) → m < 6 → even_scale m < 19
even_small m below = ltb-true _ _ (agree_below_at (λ m. nat_lt (even_scale m) 19) (λ _. true) 6 m refl below)

pub scale_below : (m e k : ℕ) → m < 6 → e ≤ k → even_scale m * 2 ^ e ≤ 18 * 2 ^ k
scale_below m e k below less = mul-le-mul (omega (arith, even_small m below)) (pow-le-pow_right (omega arith) less)

-- a number times it
pub dc_product : {n s : ℕ} {f v : ℤ} → n ≤ 2 ^ 31 → IsBelow n f → s ≤ 18 * 2 ^ 8 → ((m k : ℕ) → IsBelow m (to_z w32 (of_z w32 f)) → s < k → IsBelow (m * k) v)
    → IsBelow (n * 4609) v
dc_product {n} few small scale grows = grows n 4609 (small_cast few small) (omega (arith, scale))

-- a quarter of that passes through its bits
module _ (f v : ℤ) (s : ℕ) (small : IsBelow (2 ^ 16) f) (below : IsBelow (2 ^ 16 * 4609) v) (told : v ≡ to_z w32 (of_z w32 f) *ℤ pos s) where
  more : IsBelow (2 ^ 29) (v +ℤ pos 2)
  more = record { low = omega (arith, ints, below); high = omega (arith, ints, below) }

  quarter : IsBelow (2 ^ 27) (v +ℤ pos 2 >>ℤ 2)
  quarter =
      let low = quarter_low (v +ℤ pos 2) in
      let high = quarter_high (v +ℤ pos 2) in
      record { low = omega (arith, ints, below, low, high); high = omega (arith, ints, below, low, high) }

  sum_stored : to_z w32 (of_z w32 (to_z w32 (of_z w32 v) +ℤ pos 2)) ≡ v +ℤ pos 2
  sum_stored = rw (cast_small (omega arith) below) (cast_small (omega arith) more)

  pub quarter_stored : to_z w32 (of_z w32 (to_z w32 (of_z w32 (to_z w32 (of_z w32 v) +ℤ pos 2)) >>ℤ 2)) ≡ (f *ℤ pos s +ℤ pos 2 >>ℤ 2)
  quarter_stored =
      ap (λ z. to_z w32 (of_z w32 (z >>ℤ 2))) sum_stored ∙ cast_small (omega arith) quarter
      ∙ ap (λ (z : ℤ). z +ℤ pos 2 >>ℤ 2) (told ∙ ap (λ (z : ℤ). z *ℤ pos s) (cast_small (omega arith) small))

  pub quarter_small : IsBelow (2 ^ 27) (to_z w32 (of_z w32 (to_z w32 (of_z w32 (to_z w32 (of_z w32 v) +ℤ pos 2)) >>ℤ 2)))
  quarter_small = rw sum_stored (small_cast (omega arith) quarter)

-- what both sides of a test give
either : (b : Bool) (v l r : ℤ) → (b ≡ true → v ≡ l) → (b ≡ false → v ≡ r) → v ≡ (if b then l else r)
either true v l r low high = low refl
either false v l r low high = high refl

-- a value of the product times that scale, raised: a quarter of it for luma, and a half for chroma
module _ (qp : ℕ) (f : ℤ) where
  abbrev product : ℤ
  product = f *ℤ pos (even_scale (qp % 6))

  raised_is : f *ℤ pos (even_scale (qp % 6) * 2 ^ (qp / 6)) ≡ product *ℤ pos (2 ^ (qp / 6))
  raised_is = sym (times_times f (even_scale (qp % 6)) (2 ^ (qp / 6)))

  level_is : product *ℤ pos 16 ≡ f *ℤ pos (16 * even_scale (qp % 6))
  level_is =
      let turned : even_scale (qp % 6) * 16 ≡ 16 * even_scale (qp % 6) = omega arith in
      times_times f (even_scale (qp % 6)) 16 ∙ ap (λ n. f *ℤ pos n) turned

  pub luma_scaled : qp ≤ 51 → (f *ℤ pos (even_scale (qp % 6) * 2 ^ (qp / 6)) +ℤ pos 2 >>ℤ 2) ≡ luma_dc_scaled qp f
  luma_scaled small =
      ap (λ (z : ℤ). z +ℤ pos 2 >>ℤ 2) raised_is
      ∙ either (nat_lt qp 36) _ _ _
      (λ low. let below = ltb-true qp 36 low in
      quarter_right (qp / 6) product (omega arith) ∙ ap (λ (z : ℤ). z +ℤ pos (2 ^ (5 - qp / 6)) >>ℤ 6 - qp / 6) level_is)
      (λ high. let from = ltb-false qp 36 high in
      let again : qp / 6 ≡ 6 + (qp / 6 - 6) = omega arith in
      ap (λ e. product *ℤ pos (2 ^ e) +ℤ pos 2 >>ℤ 2) again
      ∙ quarter_left (qp / 6 - 6) product (omega arith) ∙ ap (λ (z : ℤ). z *ℤ pos (2 ^ (qp / 6 - 6))) level_is)

  pub chroma_scaled : (f *ℤ pos (even_scale (qp % 6) * 2 ^ (qp / 6)) >>ℤ 1) ≡ chroma_dc_scaled qp f
  chroma_scaled =
      let scale = even_scale (qp % 6) * 2 ^ (qp / 6) in
      let turned : 16 * even_scale (qp % 6) * 2 ^ (qp / 6) ≡ even_scale (qp % 6) * 2 ^ (qp / 6) * 16 = omega arith in
      sym (fewer 15 2 (f *ℤ pos scale) _ (times_times f (16 * even_scale (qp % 6)) (2 ^ (qp / 6)) ∙ ap (λ n. f *ℤ pos n) turned ∙ sym (times_times f scale 16)))

-- the product of a row looks at four numbers alone
pub same_hadamard_row : (d e : ℕ → ℤ) (x : ℕ) → ((u : ℕ) → u < 4 → d u ≡ e u) → hadamard_row d x ≡ hadamard_row e x
same_hadamard_row d e x same = rw (same 0 (omega arith), same 1 (omega arith), same 2 (omega arith), same 3 (omega arith))

-- which are added and subtracted in pairs
pub row_in_pairs : (d : ℕ → ℤ) (a b : ℤ) → a ≡ d 0 +ℤ d 1 → b ≡ d 2 +ℤ d 3 → (a +ℤ b ≡ hadamard_row d 0) × (a -ℤ b ≡ hadamard_row d 1)
row_in_pairs d a b p q = (omega (arith, ints, p, q), omega (arith, ints, p, q))

pub row_by_differences : (d : ℕ → ℤ) (a b : ℤ) → a ≡ d 0 -ℤ d 1 → b ≡ d 2 -ℤ d 3 → (a -ℤ b ≡ hadamard_row d 2) × (a +ℤ b ≡ hadamard_row d 3)
row_by_differences d a b p q = (omega (arith, ints, p, q), omega (arith, ints, p, q))

-- the product of a square of four levels is that of the row of them
pub square_is_row : (l : List ℤ)
    → (hadamard_row (level l) 0 ≡ chroma_dc_product l 0 0) × (hadamard_row (level l) 3 ≡ chroma_dc_product l 1 0)
    × (hadamard_row (level l) 1 ≡ chroma_dc_product l 0 1) × (hadamard_row (level l) 2 ≡ chroma_dc_product l 1 1)
square_is_row l = (omega (arith, ints), omega (arith, ints), omega (arith, ints), omega (arith, ints))

-- a sign goes out of a row's product
plus : (d : ℕ → ℤ) (x : ℕ) → x < 4 → hadamard_row d x *ℤ pos 1 ≡ sum_below_ℤ 4 (λ u. pos 1 *ℤ d u *ℤ hadamard x u)
plus d = below_four _ (omega (arith, ints)) (omega (arith, ints)) (omega (arith, ints)) (omega (arith, ints))

minus : (d : ℕ → ℤ) (x : ℕ) → x < 4 → hadamard_row d x *ℤ negsuc 0 ≡ sum_below_ℤ 4 (λ u. negsuc 0 *ℤ d u *ℤ hadamard x u)
minus d = below_four _ (omega (arith, ints)) (omega (arith, ints)) (omega (arith, ints)) (omega (arith, ints))

-- the matrix multiplies the rows, and then the columns
pub product_is : (c : ℕ → ℕ → ℤ) (x y : ℕ) → x < 4 → y < 4
    → hadamard_row (λ v. hadamard_row (λ u. c u v) x) y ≡ sum_below_ℤ 4 (λ v. sum_below_ℤ 4 (λ u. hadamard v y *ℤ c u v *ℤ hadamard x u))
product_is c x y column =
    let p = λ (v : ℕ). plus (λ u. c u v) x column in
    let m = λ (v : ℕ). minus (λ u. c u v) x column in
    below_four (λ y. hadamard_row (λ v. hadamard_row (λ u. c u v) x) y ≡ sum_below_ℤ 4 (λ v. sum_below_ℤ 4 (λ u. hadamard v y *ℤ c u v *ℤ hadamard x u)))
    (rw (p 0, p 1, p 2, p 3)) (rw (p 0, p 1, m 2, m 3)) (rw (p 0, m 1, m 2, p 3)) (rw (p 0, m 1, p 2, m 3)) y

-- ---- what is done to four numbers at once is done to each of them

pub same_sum : {a b d e : ℤ} → a ≡ d → b ≡ e → a +ℤ b ≡ d +ℤ e
same_sum p q = rw (p, q) refl

pub same_difference : {a b d e : ℤ} → a ≡ d → b ≡ e → a -ℤ b ≡ d -ℤ e
same_difference p q = rw (p, q) refl

-- number k of what two vectors of bits give together
lane : (f : ℕ → ℕ → ℕ) (xs ys : List ℤ) (k : ℕ) → k < length xs → k < length ys
    → get_or (map (to_z w32) (zip2 f (map (of_z w32) xs) (map (of_z w32) ys))) k (pos 0)
    ≡ to_z w32 (f (of_z w32 (get_or xs k (pos 0))) (of_z w32 (get_or ys k (pos 0))))
lane f [] ys k h j = absurd (omega (arith, h))
lane f (x ∷ xs) [] k h j = absurd (omega (arith, j))
lane f (x ∷ xs) (y ∷ ys) zero h j = refl
lane f (x ∷ xs) (y ∷ ys) (suc k) h j = lane f xs ys k (omega (arith, h)) (omega (arith, j))

-- what is asked of each two numbers
each_lane : (P : ℕ → ℕ → Type 0) (xs ys : List ℤ)
    → ((k : ℕ) → k < length xs → k < length ys → P (of_z w32 (get_or xs k (pos 0))) (of_z w32 (get_or ys k (pos 0))))
    → Each2 P (map (of_z w32) xs) (map (of_z w32) ys)
each_lane P [] ys f = tt
each_lane P (x ∷ xs) [] f = tt
each_lane P (x ∷ xs) (y ∷ ys) f = (f 0 (omega arith) (omega arith), each_lane P xs ys (λ k h j. f (suc k) (omega (arith, h)) (omega (arith, j))))

-- an operation that does not overflow on numbers below 2 ^ 30
module _ (op : ℤ → ℤ → ℤ) (small : (m n : ℕ) (a b : ℤ) → IsBelow m a → IsBelow n b → IsBelow (m + n) (op a b)) (xs ys : List ℤ)
    (four_xs : length xs ≡ 4) (four_ys : length ys ≡ 4) (small_xs : AllBelow 4 (2 ^ 30) xs) (small_ys : AllBelow 4 (2 ^ 30) ys) where
  abbrev done : List ℤ
  done = map (to_z w32) (zip2 (λ x y. of_z w32 (op (to_z w32 x) (to_z w32 y))) (map (of_z w32) xs) (map (of_z w32) ys))

  fits : (a b : ℤ) → IsBelow (2 ^ 30) a → IsBelow (2 ^ 30) b → FitsSigned w32 (op (to_z w32 (of_z w32 a)) (to_z w32 (of_z w32 b)))
  fits a b p q = let r = small (2 ^ 30) (2 ^ 30) a b p q in rw (cast_small (omega arith) p, cast_small (omega arith) q) (search (arith, ints))

  pub lanes_fit : Each2 (λ x y. FitsSigned w32 (op (to_z w32 x) (to_z w32 y))) (map (of_z w32) xs) (map (of_z w32) ys)
  lanes_fit = each_lane _ xs ys (λ k h j. fits _ _ (small_xs k (omega arith)) (small_ys k (omega arith)))

  pub lanes : (k : ℕ) → k < 4 → get_or done k (pos 0) ≡ op (get_or xs k (pos 0)) (get_or ys k (pos 0))
  lanes k h =
      lane (λ x y. of_z w32 (op (to_z w32 x) (to_z w32 y))) xs ys k (omega arith) (omega arith)
      ∙ rw (cast_small (omega arith) (small_xs k h), cast_small (omega arith) (small_ys k h))
      (cast_small (omega arith) (small _ _ _ _ (small_xs k h) (small_ys k h)))

  pub lanes_small : (m n : ℕ) → AllBelow 4 m xs → AllBelow 4 n ys → AllBelow 4 (m + n) done
  lanes_small m n p q k h = rw (lanes k h) (small m n _ _ (p k h) (q k h))

-- ---- sixteen numbers as a matrix

pub place_of_four : (i : ℕ) → i ≡ 4 * (i / 4) + i % 4
place_of_four i = omega arith

-- one place more is written
pub place_more : (P : ℕ → ℤ → Type 0) (out : List ℤ) (i : ℕ) (v : ℤ) → i < length out
    → ((k : ℕ) → k < i → P k (get_or out k (pos 0))) → P i v → (k : ℕ) → k < i + 1 → P k (get_or (set out i v) k (pos 0))
place_more P out i v inside before here =
    below_more (λ k. P k (get_or (set out i v) k (pos 0))) i
    (λ k h. rw (get_or-set_other out i k v (pos 0) (omega arith)) (before k h))
    (rw (get_or-set_same out i v (pos 0) inside) here)

-- ---- numbers that are scaled one after another

-- each of the first i is replaced by f of it, which is small
pub record AreScaled (f : ℤ → ℤ) (old new : List ℤ) (i : ℕ) : Type 0 where
  pub done : (k : ℕ) → k < i → slice_index_or new k (pos 0) ≡ f (slice_index_or old k (pos 0))
  pub small : (k : ℕ) → k < i → IsBelow (2 ^ 27) (slice_index_or new k (pos 0))
  pub left : (k : ℕ) → i ≤ k → slice_index_or new k (pos 0) ≡ slice_index_or old k (pos 0)

module _ (f : ℤ → ℤ) (old now : List ℤ) (i n : ℕ) (so_far : AreScaled f old now i) (few : n ≤ 2 ^ 31) (before : IsBelow n (slice_index_or old i (pos 0))) where
  pub scaled_more : (r : ℤ) → i < length now → r ≡ f (to_z w32 (of_z w32 (slice_index_or now i (pos 0)))) → IsBelow (2 ^ 27) r
      → AreScaled f old (set now i (to_z w32 (of_z w32 r))) (i + 1)
  scaled_more r inside value small = record {
    done = place_more (λ k v. v ≡ f (slice_index_or old k (pos 0))) now i _ inside so_far.done
        (cast_small (omega arith) small ∙ value ∙ ap f (ap (λ z. to_z w32 (of_z w32 z)) (so_far.left i (omega arith)) ∙ cast_small few before));
    small = place_more (λ k v. IsBelow (2 ^ 27) v) now i _ inside so_far.small (small_cast (omega arith) small);
    left = λ k later. get_or-set_other now i k (to_z w32 (of_z w32 r)) (pos 0) (omega arith) ∙ so_far.left k (omega arith);
  }

-- ---- laws of the residual: what is left of a block whose levels are all 0

-- the first number alone comes out everywhere
inverse4_alone : (d : ℤ) (x : ℕ) → inverse4 d (pos 0) (pos 0) (pos 0) x ≡ d
inverse4_alone d zero = omega (arith, ints)
inverse4_alone d (suc zero) = omega (arith, ints)
inverse4_alone d (suc (suc zero)) = omega (arith, ints)
inverse4_alone d (suc (suc (suc x))) = omega (arith, ints)

zero_scaled : (m n : ℕ) → pos 0 *ℤ pos m *ℤ pos n ≡ pos 0
zero_scaled m n = ap (λ (z : ℤ). z *ℤ pos n) (zero-*ℤ (pos m)) ∙ zero-*ℤ (pos n)

-- a block whose levels are all 0 has no residual
pub no_residual : (qp : ℕ) (levels : List ℤ) (x y : ℕ) → ((i : ℕ) → level levels i ≡ pos 0) → residual4x4 qp levels x y ≡ pos 0
no_residual qp levels x y none = simp (none, zero_scaled, inverse4_alone)

-- with a DC value and no other level it has the same residual everywhere
pub residual_of_dc : (qp : ℕ) (dc : ℤ) (levels : List ℤ) (x y : ℕ) → ((i : ℕ) → level levels i ≡ pos 0) → residual4x4_with_dc qp dc levels x y ≡ ((dc +ℤ pos 32) >>ℤ 6)
residual_of_dc qp dc levels x y none = simp (none, zero_scaled, inverse4_alone)

-- ---- the tables of the code are those of the standard

-- QPc by qPI
pub chroma_table : (n : ℕ) → n < 52 → slice_index CHROMA_QP n ≡ chroma_qp_at n
chroma_table n below = eqb-true _ _ (agree_below_at (λ n. nat_eq (slice_index CHROMA_QP n) (chroma_qp_at n)) (λ _. true) 52 n refl below)

pub chroma_qp_small : (n : ℕ) → n < 52 → slice_index CHROMA_QP n < 40
chroma_qp_small n below = ltb-true _ _ (agree_below_at (λ n. nat_lt (slice_index CHROMA_QP n) 40) (λ _. true) 52 n refl below)

-- ---- worked values of the residual

-- an Intra 16x16 DC level of 1 alone at QP 26 adds 1 to every sample: the DC value of each block
pub dc_of_one : luma_dc 26 (pos 1 ∷ []) 2 3 ≡ pos 52
dc_of_one = refl

pub residual_of_one : residual4x4_with_dc 26 (luma_dc 26 (pos 1 ∷ []) 2 3) [] 3 1 ≡ pos 1
residual_of_one = refl

-- random levels at a QP, beside the values of a transform of whole blocks
pub record Worked : Type 0 where
  pub qp : ℕ
  pub levels : List ℤ
  pub values : List ℤ

abbrev worked : ℕ → List ℤ → List ℤ → Worked
worked qp levels values = record { qp = qp; levels = levels; values = values }

-- a block of n columns and rows, row by row
abbrev block : (ℕ → List ℤ → ℕ → ℕ → ℤ) → (n : ℕ) → Worked → List ℤ
block f n w = map (λ i. f w.qp w.levels (i % n) (i / n)) (range_with_len 0 (n * n))

abbrev blocks : List Worked
blocks =
    worked 0 (negsuc 2 ∷ negsuc 30 ∷ pos 2 ∷ pos 1 ∷ pos 2 ∷ pos 2 ∷ pos 0 ∷ pos 1 ∷ negsuc 2 ∷ pos 0 ∷ negsuc 2 ∷ negsuc 2 ∷ pos 1 ∷ negsuc 2 ∷ pos 0 ∷ pos 1 ∷ [])
    (negsuc 6 ∷ negsuc 2 ∷ pos 3 ∷ pos 7 ∷ negsuc 3 ∷ negsuc 3 ∷ pos 2 ∷ pos 5 ∷ negsuc 5 ∷ negsuc 5 ∷ pos 3 ∷ pos 6 ∷ negsuc 8 ∷ negsuc 2 ∷ pos 2 ∷ pos 6 ∷ []) ∷
    worked 17 (pos 2 ∷ negsuc 0 ∷ pos 0 ∷ pos 0 ∷ negsuc 0 ∷ pos 10 ∷ pos 0 ∷ negsuc 0 ∷ pos 2 ∷ pos 0 ∷ pos 15 ∷ pos 1 ∷ pos 1 ∷ pos 0 ∷ pos 0 ∷ pos 0 ∷ [])
    (pos 27 ∷ negsuc 3 ∷ negsuc 12 ∷ negsuc 0 ∷ negsuc 19 ∷ negsuc 23 ∷ pos 10 ∷ pos 44 ∷ pos 36 ∷ pos 4 ∷ negsuc 20 ∷ negsuc 9 ∷ pos 5 ∷ negsuc 14 ∷ negsuc 7 ∷ pos 27 ∷ []) ∷
    worked 28 (negsuc 2 ∷ pos 0 ∷ pos 22 ∷ pos 0 ∷ pos 1 ∷ pos 0 ∷ pos 2 ∷ pos 2 ∷ pos 1 ∷ negsuc 2 ∷ pos 2 ∷ negsuc 0 ∷ negsuc 0 ∷ negsuc 0 ∷ pos 0 ∷ negsuc 2 ∷ [])
    (pos 109 ∷ pos 104 ∷ pos 65 ∷ pos 84 ∷ pos 68 ∷ pos 11 ∷ pos 87 ∷ pos 66 ∷ negsuc 78 ∷ negsuc 77 ∷ negsuc 83 ∷ negsuc 86 ∷ negsuc 125 ∷ negsuc 124 ∷ negsuc 75 ∷ negsuc 130 ∷ []) ∷
    worked 36 (pos 0 ∷ pos 0 ∷ negsuc 0 ∷ pos 0 ∷ pos 2 ∷ pos 0 ∷ pos 2 ∷ pos 2 ∷ pos 1 ∷ pos 0 ∷ negsuc 30 ∷ pos 2 ∷ pos 0 ∷ pos 1 ∷ pos 1 ∷ pos 0 ∷ [])
    (negsuc 143 ∷ negsuc 205 ∷ pos 75 ∷ pos 223 ∷ pos 479 ∷ pos 250 ∷ negsuc 222 ∷ negsuc 531 ∷ negsuc 531 ∷ negsuc 248 ∷ pos 302 ∷ pos 505 ∷ pos 249 ∷ pos 101 ∷ negsuc 49 ∷ negsuc 247 ∷ []) ∷
    worked 51 (negsuc 25 ∷ negsuc 0 ∷ negsuc 0 ∷ pos 0 ∷ pos 0 ∷ negsuc 2 ∷ negsuc 0 ∷ pos 2 ∷ pos 0 ∷ pos 1 ∷ negsuc 2 ∷ pos 0 ∷ pos 1 ∷ negsuc 2 ∷ pos 2 ∷ pos 0 ∷ [])
    (negsuc 1751 ∷ negsuc 1448 ∷ negsuc 1630 ∷ negsuc 1135 ∷ negsuc 1504 ∷ negsuc 1411 ∷ negsuc 1235 ∷ negsuc 2102 ∷ negsuc 1742 ∷ negsuc 1523 ∷ negsuc 979 ∷ negsuc 1144 ∷ negsuc 1927 ∷ negsuc 622 ∷ negsuc 1448 ∷ negsuc 1679 ∷ []) ∷
    []

pub blocks_are : map (block residual4x4 4) blocks ≡ map (λ (w : Worked). w.values) blocks
blocks_are = refl

abbrev dc_values : List Worked
dc_values =
    worked 3 (negsuc 14 ∷ pos 38 ∷ negsuc 31 ∷ pos 8 ∷ pos 9 ∷ pos 39 ∷ pos 4 ∷ negsuc 17 ∷ pos 21 ∷ negsuc 31 ∷ pos 18 ∷ pos 43 ∷ pos 40 ∷ pos 37 ∷ pos 49 ∷ negsuc 35 ∷ [])
    (pos 606 ∷ negsuc 499 ∷ negsuc 786 ∷ negsuc 310 ∷ negsuc 149 ∷ pos 46 ∷ pos 291 ∷ negsuc 506 ∷ negsuc 149 ∷ pos 172 ∷ negsuc 772 ∷ pos 431 ∷ pos 620 ∷ pos 4 ∷ pos 39 ∷ pos 137 ∷ []) ∷
    worked 22 (pos 43 ∷ negsuc 29 ∷ pos 44 ∷ negsuc 8 ∷ pos 34 ∷ pos 42 ∷ negsuc 30 ∷ negsuc 34 ∷ pos 6 ∷ pos 3 ∷ negsuc 14 ∷ pos 33 ∷ negsuc 56 ∷ negsuc 56 ∷ pos 41 ∷ negsuc 24 ∷ [])
    (negsuc 415 ∷ pos 5280 ∷ negsuc 5279 ∷ pos 10784 ∷ pos 1056 ∷ pos 5728 ∷ pos 4512 ∷ pos 608 ∷ pos 2208 ∷ negsuc 6943 ∷ pos 2208 ∷ pos 3936 ∷ pos 224 ∷ negsuc 3807 ∷ negsuc 1439 ∷ pos 3360 ∷ []) ∷
    worked 36 (pos 0 ∷ negsuc 26 ∷ negsuc 35 ∷ pos 28 ∷ pos 17 ∷ negsuc 15 ∷ negsuc 2 ∷ pos 43 ∷ pos 59 ∷ pos 32 ∷ negsuc 15 ∷ negsuc 13 ∷ negsuc 49 ∷ negsuc 31 ∷ negsuc 46 ∷ negsuc 30 ∷ [])
    (negsuc 14879 ∷ pos 33120 ∷ negsuc 14559 ∷ pos 11680 ∷ negsuc 8159 ∷ negsuc 39519 ∷ negsuc 19359 ∷ pos 5600 ∷ negsuc 19679 ∷ negsuc 5599 ∷ pos 47840 ∷ pos 3040 ∷ pos 13280 ∷ pos 6880 ∷ pos 11680 ∷ negsuc 11359 ∷ []) ∷
    worked 44 (pos 0 ∷ negsuc 34 ∷ negsuc 16 ∷ negsuc 33 ∷ pos 1 ∷ pos 19 ∷ pos 55 ∷ pos 18 ∷ pos 47 ∷ negsuc 59 ∷ pos 1 ∷ pos 56 ∷ pos 23 ∷ negsuc 15 ∷ pos 42 ∷ pos 22 ∷ [])
    (pos 50752 ∷ negsuc 131455 ∷ negsuc 73215 ∷ negsuc 30783 ∷ pos 2496 ∷ negsuc 6655 ∷ pos 121472 ∷ pos 10816 ∷ negsuc 14143 ∷ negsuc 61567 ∷ pos 64896 ∷ negsuc 4159 ∷ pos 25792 ∷ pos 18304 ∷ pos 4992 ∷ pos 22464 ∷ []) ∷
    []

pub dc_values_are : map (block luma_dc 4) dc_values ≡ map (λ (w : Worked). w.values) dc_values
dc_values_are = refl

abbrev chroma_dc_values : List Worked
chroma_dc_values =
    worked 5 (negsuc 49 ∷ pos 46 ∷ pos 24 ∷ negsuc 44 ∷ [])
    (negsuc 224 ∷ negsuc 242 ∷ pos 153 ∷ negsuc 1484 ∷ []) ∷
    worked 29 (pos 56 ∷ negsuc 10 ∷ pos 40 ∷ pos 31 ∷ [])
    (pos 16704 ∷ pos 10944 ∷ negsuc 3743 ∷ pos 8352 ∷ []) ∷
    worked 39 (pos 36 ∷ negsuc 34 ∷ pos 1 ∷ pos 53 ∷ [])
    (pos 24640 ∷ pos 8512 ∷ negsuc 23743 ∷ pos 55104 ∷ []) ∷
    []

pub chroma_dc_values_are : map (block chroma_dc 2) chroma_dc_values ≡ map (λ (w : Worked). w.values) chroma_dc_values
chroma_dc_values_are = refl

-- ---- sixty-four samples, sixteen by sixteen

pub in_four : (P : ℕ → Type 0) → ((i : ℕ) → i < 16 → P (0 + i)) → ((i : ℕ) → i < 16 → P (16 + i)) → ((i : ℕ) → i < 16 → P (32 + i)) → ((i : ℕ) → i < 16 → P (48 + i))
    → (i : ℕ) → i < 64 → P i
in_four P a b d e i low =
    let r : i % 16 < 16 = omega arith in
    below_four (λ q. q ≡ i / 16 → P i)
    (λ is. subst P (omega (arith, is)) (a (i % 16) r))
    (λ is. subst P (omega (arith, is)) (b (i % 16) r))
    (λ is. subst P (omega (arith, is)) (d (i % 16) r))
    (λ is. subst P (omega (arith, is)) (e (i % 16) r))
    (i / 16) (omega (arith, low)) refl

-- the same moves by other words
pub moves_same : (m : Moves) (f g : ℕ → ℤ) → AreMovesOf f m → ((i : ℕ) → i < 16 → f i ≡ g i) → AreMovesOf g m
moves_same m f g all same = record {
  rises = λ i low. all.rises i low ∙ ap clip1 (same i low);
  falls = λ i low. all.falls i low ∙ ap (λ (z : ℤ). clip1 (pos 0 -ℤ z)) (same i low);
}
