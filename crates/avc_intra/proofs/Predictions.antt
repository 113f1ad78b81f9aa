-- Sums, means and planes beside a block, and worked values of each mode.
pub mod Common
unfoldable pub use Common.*

-- ---- sums of which each term is known

-- one more term
pub sum_below_ℤ_more : (f : ℕ → ℤ) (i : ℕ) (s r : ℤ) → s ≡ sum_below_ℤ i f → r ≡ f i → s +ℤ r ≡ sum_below_ℤ (i + 1) f
sum_below_ℤ_more f i s r e g = rw (e, g, add-one)

-- the same terms
pub sum_below-same : (n : ℕ) (f g : ℕ → ℕ) → ((i : ℕ) → i < n → f i ≡ g i) → sum_below n f ≡ sum_below n g
sum_below-same zero f g same = refl
sum_below-same (suc n) f g same = rw (sum_below-same n f g (λ i less. same i (omega arith)), same n (omega arith))

sum_below_ℤ-same : (n : ℕ) (f g : ℕ → ℤ) → ((i : ℕ) → i < n → f i ≡ g i) → sum_below_ℤ n f ≡ sum_below_ℤ n g
sum_below_ℤ-same zero f g same = refl
sum_below_ℤ-same (suc n) f g same = rw (sum_below_ℤ-same n f g (λ i less. same i (omega arith)), same n (omega arith))

-- two sides with the same samples and the same corner, before their middle
same_before : (n i : ℕ) (f g : ℤ → ℕ) → i < n → ((i : ℕ) → i < 2 * n → f (pos i) ≡ g (pos i)) → f (negsuc 0) ≡ g (negsuc 0) → f (pos n -ℤ pos (i + 2)) ≡ g (pos n -ℤ pos (i + 2))
same_before n i f g less same corner =
    elim (cases_lt (i + 1) n) as (λ _. f (pos n -ℤ pos (i + 2)) ≡ g (pos n -ℤ pos (i + 2))) [
      | inl near ↦ let place : pos n -ℤ pos (i + 2) ≡ pos (n - (i + 2)) = omega (arith, ints) in rw place (same (n - (i + 2)) (omega arith))
      | inr far ↦ let place : pos n -ℤ pos (i + 2) ≡ negsuc 0 = omega (arith, ints) in rw place corner
    ]

-- and so the same slope
pub slope-same : (n : ℕ) (f g : ℤ → ℕ) → ((i : ℕ) → i < 2 * n → f (pos i) ≡ g (pos i)) → f (negsuc 0) ≡ g (negsuc 0) → slope n f ≡ slope n g
slope-same n f g same corner =
    sum_below_ℤ-same n _ _ (λ i less.
    ap (λ (a : ℕ). pos (i + 1) *ℤ (pos a -ℤ pos (f (pos n -ℤ pos (i + 2))))) (same (n + i) (omega arith))
    ∙ ap (λ (b : ℕ). pos (i + 1) *ℤ (pos (g (pos (n + i))) -ℤ pos b)) (same_before n i f g less same corner))

-- the same plane: of the same height, and the same slopes of the two sides
pub same_plane : (m x y : ℕ) (h a d h' a' d' : ℤ) → h ≡ h' → a ≡ a' → d ≡ d'
    → clip1 (h +ℤ a *ℤ (pos x -ℤ pos m) +ℤ d *ℤ (pos y -ℤ pos m) +ℤ pos 16 >>ℤ 5) ≡ clip1 (h' +ℤ a' *ℤ (pos x -ℤ pos m) +ℤ d' *ℤ (pos y -ℤ pos m) +ℤ pos 16 >>ℤ 5)
same_plane m x y h a d h' a' d' height across down = rw (height, across, down) refl

-- ---- sums of the samples beside a block, read from the rows in which it lies

-- the mean of the sides that count, from sums that are known for those
pub mean_of_sides : (f : ℕ → ℕ → ℕ) (g h : ℕ → ℕ) (none : ℕ) (counts_above counts_left : Bool) (a l above left : ℕ) →
    (counts_above ≡ true → a ≡ above) → (counts_left ≡ true → l ≡ left)
    → (if counts_above then (if counts_left then f a l else g a) else (if counts_left then h l else none))
    ≡ (if counts_above then (if counts_left then f above left else g above) else (if counts_left then h left else none))
mean_of_sides f g h none true true a l above left e i = rw (e refl, i refl) refl
mean_of_sides f g h none true false a l above left e i = ap g (e refl)
mean_of_sides f g h none false true a l above left e i = ap h (i refl)
mean_of_sides f g h none false false a l above left e i = refl

-- a sample above the block itself is not extended
pub near : (sides : Sides) (p : Around) (x : ℕ) → x < 4 → top (extended sides p) (pos x) ≡ top p (pos x)
near sides p x low =
    let not_past : nat_lt 3 x ≡ false = grind (arith, nat_tests) in
    ap (λ t. if t && not sides.above_right then top p (pos 3) else top p (pos x)) not_past

module _ (p : Around) (sides : Sides) (size first stride : ℕ) (rows : List ℕ) (seen : IsSeen p sides size first stride rows) where
  -- n of them by their places in the side
  pub sum_above_seen : (n : ℕ) (k : ℕ → ℕ) → ((i : ℕ) → i < n → k i < size) → sides.above ≡ true
      → sum_below n (λ i. slice_index rows (first - stride + k i)) ≡ sum_below n (λ i. top p (pos (k i)))
  sum_above_seen n k within there = sum_below-same n _ _ (λ i low. sym ((seen.tops there).1 (k i) (within i low)))

  pub sum_left_seen : (n : ℕ) (k : ℕ → ℕ) → ((i : ℕ) → i < n → k i < size) → sides.left ≡ true
      → sum_below n (λ i. slice_index rows (first + k i * stride - 1)) ≡ sum_below n (λ i. left_of p (pos (k i)))
  sum_left_seen n k within there = sum_below-same n _ _ (λ i low. sym ((seen.lefts there).2 (k i) (within i low)))

-- ---- the rounded means do not depend on the direction in which they are read

pub mean_of_two-swap : (a b : ℕ) → mean_of_two a b ≡ mean_of_two b a
mean_of_two-swap a b = omega arith

pub mean_of_three-swap : (a b c : ℕ) → mean_of_three a b c ≡ mean_of_three c b a
mean_of_three-swap a b c = omega arith

pub mean_of_two-same : (a : ℕ) → mean_of_two a a ≡ a
mean_of_two-same a = omega arith

pub mean_of_three-same : (a : ℕ) → mean_of_three a a a ≡ a
mean_of_three-same a = omega arith

-- ---- bounds of products with a sign

IsWithin-abs : (n : ℕ) (z : ℤ) → unsigned_abs z ≤ n → IsWithin n z
IsWithin-abs n (pos k) h = omega (arith, ints)
IsWithin-abs n (negsuc k) h = omega (arith, ints)

abs-within : (n : ℕ) (z : ℤ) → IsWithin n z → unsigned_abs z ≤ n
abs-within n (pos k) h = omega (arith, ints)
abs-within n (negsuc k) h = omega (arith, ints)

pub IsWithin-mul : (m n : ℕ) (a b : ℤ) → IsWithin m a → IsWithin n b → IsWithin (m * n) (a *ℤ b)
IsWithin-mul m n a b first second =
    let x = abs-within m a first in
    let y = abs-within n b second in
    IsWithin-abs (m * n) (a *ℤ b) (rw unsigned_abs-mul (mul-le-mul x y))

pub IsWithin-more : {m n : ℕ} {z : ℤ} → m ≤ n → IsWithin m z → IsWithin n z
IsWithin-more {m} {n} {z} h small = record { low = omega (arith, ints); high = omega (arith, ints) }

pub IsWithin-add : (m n : ℕ) (a b : ℤ) → IsWithin m a → IsWithin n b → IsWithin (m + n) (a +ℤ b)
IsWithin-add m n a b p q = record { low = omega (arith, ints); high = omega (arith, ints) }

-- a small number is what its 32 bits say
pub cast_within : {n : ℕ} {z : ℤ} → n < 2 ^ 31 → IsWithin n z → to_z w32 (of_z w32 z) ≡ z
cast_within {n} {z} h small = omega (arith, ints)

pub still_within : {n : ℕ} {z : ℤ} → n < 2 ^ 31 → IsWithin n z → IsWithin n (to_z w32 (of_z w32 z))
still_within {n} {z} h small = rw (cast_within h small) small

pub fits_within : {n : ℕ} {z : ℤ} → n < 2 ^ 31 → IsWithin n z → FitsSigned w32 z
fits_within {n} {z} h small = search (arith, ints)

-- ---- from the slope of a side to what the plane rises in a step

-- a shift by its two bounds
shift_low : (z : ℤ) → (pos 64 *ℤ (z >>ℤ 6)) ≤ℤ z
shift_low (pos a) = omega (arith, ints)
shift_low (negsuc a) = omega (arith, ints)

shift_high : (z : ℤ) → z <ℤ (pos 64 *ℤ (z >>ℤ 6) +ℤ pos 64)
shift_high (pos a) = omega (arith, ints)
shift_high (negsuc a) = omega (arith, ints)

shift_within : (z : ℤ) → IsWithin 300032 z → IsWithin 5000 (z >>ℤ 6)
shift_within z small = record { low = omega (arith, ints, shift_low z, shift_high z); high = omega (arith, ints, shift_low z, shift_high z) }

module _ (m n : ℕ) (s : ℤ) (few : m * n ≤ 300000) (fits : n < 2 ^ 31) (small : IsWithin n s) where
  times : IsWithin 300000 (pos m *ℤ s)
  times = IsWithin-more few (IsWithin-mul m n (pos m) s (record { low = omega (arith, ints); high = omega (arith, ints) }) small)

  half_more : IsWithin 300032 (pos m *ℤ s +ℤ pos 32)
  half_more = IsWithin-add 300000 32 _ (pos 32) times (record { low = omega (arith, ints); high = omega (arith, ints) })

  shifted : IsWithin 5000 (pos m *ℤ s +ℤ pos 32 >>ℤ 6)
  shifted = shift_within _ half_more

  -- the same through the bits of each step
  pub gradient_fits : FitsSigned w32 (to_z w32 (of_z w32 (pos m *ℤ to_z w32 (of_z w32 s))) +ℤ pos 32)
  gradient_fits = rw (cast_within fits small, cast_within (omega arith) times) (fits_within (omega arith) half_more)

  pub gradient_is : to_z w32 (of_z w32 (to_z w32 (of_z w32 (to_z w32 (of_z w32 (pos m *ℤ to_z w32 (of_z w32 s))) +ℤ pos 32)) >>ℤ 6)) ≡ (pos m *ℤ s +ℤ pos 32 >>ℤ 6)
  gradient_is =
      let product : to_z w32 (of_z w32 (pos m *ℤ to_z w32 (of_z w32 s))) ≡ pos m *ℤ s = rw (cast_within fits small) (cast_within (omega arith) times) in
      let sum : to_z w32 (of_z w32 (to_z w32 (of_z w32 (pos m *ℤ to_z w32 (of_z w32 s))) +ℤ pos 32)) ≡ pos m *ℤ s +ℤ pos 32 =
      rw product (cast_within (omega arith) half_more) in
      ap (λ (z : ℤ). to_z w32 (of_z w32 (z >>ℤ 6))) sum ∙ cast_within (omega arith) shifted

  pub gradient_small : IsWithin 5000 (to_z w32 (of_z w32 (to_z w32 (of_z w32 (to_z w32 (of_z w32 (pos m *ℤ to_z w32 (of_z w32 s))) +ℤ pos 32)) >>ℤ 6)))
  gradient_small = rw gradient_is shifted

-- ---- what calls about a block in rows ask for

pub first_line : (w h first stride long : ℕ) → 0 < h → IsRoom w h first stride long → first + w ≤ long
first_line w h first stride long some room = omega (arith, room 0 some)

all_three : (a b d : Bool) → (a && b && d) ≡ true → (a ≡ true) × (b ≡ true) × (d ≡ true)
all_three true true true all = (refl, refl, refl)
all_three true true false all = absurd (false≢true all)
all_three true false d all = absurd (false≢true all)
all_three false b d all = absurd (false≢true all)

-- the sides that meet at the corner
pub corner_sides : (sides : Sides) → has_corner_sides sides ≡ true → (sides.above ≡ true) × (sides.left ≡ true) × (sides.corner ≡ true)
corner_sides sides all = all_three sides.above sides.left sides.corner all

-- ---- the column left of a block that is laid line by line stays

pub left_kept : (w first stride y : ℕ) (f : ℕ → ℕ → ℕ) (old new : List ℕ) → 0 < first → w < stride → IsStridedSet w y first stride f old new
    → slice_index new (first + y * stride - 1) ≡ slice_index old (first + y * stride - 1)
left_kept w first stride y f old new some narrow set =
    set.outside (first + y * stride - 1)
    (λ x v column low e. let more : (v + 1) * stride ≤ y * stride = mul-le-mul_right stride (omega arith) in omega (arith, more))

-- ---- a sample of a block by its column and row

slice_index-block4x4 : (f : ℕ → ℕ → ℕ) (x y : ℕ) → x < 4 → y < 4 → slice_index (block4x4 f) (4 * y + x) ≡ f x y
slice_index-block4x4 f x y column row =
    let across : (4 * y + x) % 4 ≡ x = omega arith in
    let down : (4 * y + x) / 4 ≡ y = omega arith in
    get_or-map-range_with_len (λ i. f (i % 4) (i / 4)) 0 16 (4 * y + x) (4 * y + x) 0 (omega arith) (zero-add (4 * y + x)) ∙ rw (across, down)

-- a block whose prediction is to be had, at one place
pub block4x4_at : (can : Bool) (f : ℕ → ℕ → ℕ) (samples : List ℕ) → can ≡ true → samples ≡ block4x4 f → (x y : ℕ) → x < 4 → y < 4 → (if can then Some (f x y) else None) ≡ Some (slice_index samples (4 * y + x))
block4x4_at can f samples available same x y column row =
    rw (available, same) (ap (λ s. Some s) (sym (slice_index-block4x4 f x y column row)))

-- eight samples of two kinds, four each
pub row_of_two : (f : ℕ → ℕ) (a b : ℕ) → a ≡ f 0 → b ≡ f 1 → (x : ℕ) → x < 8 → slice_index (a ∷ a ∷ a ∷ a ∷ b ∷ b ∷ b ∷ b ∷ []) x ≡ f (x / 4)
row_of_two f a b left right x column =
    rw (left, right) (get_or-map-range_with_len (λ i. f (i / 4)) 0 8 x x 0 column (zero-add x))

-- a block that was laid, by its columns and rows
pub laid4x4 : (first stride : ℕ) (f : ℕ → ℕ → ℕ) (samples old new : List ℕ) → samples ≡ block4x4 f
    → IsStridedSet 4 4 first stride (λ x y. slice_index samples (4 * y + x)) old new → IsStridedSet 4 4 first stride f old new
laid4x4 first stride f samples old new same set =
    strided_same 4 4 first stride (λ x y. slice_index samples (4 * y + x)) f old new set
    (λ x y column row. rw same (slice_index-block4x4 f x y column row))

-- ---- a loop that fills a list from the front

pub stored : {X : Type 0} (P : ℕ → X → Type 0) (xs : List X) (n : ℕ) (v d : X) → n < length xs → P n v → ((k : ℕ) → k < n → P k (get_or xs k d)) →
    (k : ℕ) → k < n + 1 → P k (get_or (slice_set xs n v) k d)
stored P xs n v d room new old =
    below_more _ n (λ k below. rw (get_or-set_other xs n k v d (omega arith)) (old k below)) (rw (get_or-set_same xs n v d room) new)

-- ---- a block of w columns that is filled row by row

-- a row ends within the block
pub row_room : (w n y : ℕ) → w * w ≡ n → y < w → w * y + w ≤ n
row_room w n y all low = let more : w * (y + 1) ≤ w * w = mul-le-mul_left w (omega arith) in omega (arith, more, all)

pub rows_more : (w y : ℕ) (f : ℕ → ℕ → ℕ) (old new : List ℕ) → ((k : ℕ) → k < w * y → slice_index new k ≡ slice_index old k)
    → ((x : ℕ) → x < w → slice_index new (w * y + x) ≡ f x y) → ((x v : ℕ) → x < w → v < y → slice_index old (w * v + x) ≡ f x v)
    → (x v : ℕ) → x < w → v < y + 1 → slice_index new (w * v + x) ≡ f x v
rows_more w y f old new before here done x v column =
    below_more (λ v. slice_index new (w * v + x) ≡ f x v) y
    (λ v less. let above : w * (v + 1) ≤ w * y = mul-le-mul_left w (omega arith) in before (w * v + x) (omega (arith, above)) ∙ done x v column less)
    (here x column) v

-- ---- worked values of intra prediction: each mode over one set of samples, beside the values of the modes written out sample by sample

-- the samples above and left of a block, each list beginning with the corner
abbrev around : List ℕ → List ℕ → Around
around above left (pos x) (pos y) = 0
around above left (pos x) (negsuc y) = slice_index above (x + 1)
around above left (negsuc x) (pos y) = slice_index left (y + 1)
around above left (negsuc x) (negsuc y) = slice_index above 0

abbrev all_sides : Sides
all_sides = record { above = true; above_right = true; left = true; corner = true }

abbrev no_corner : Sides
no_corner = record all_sides { corner = false }

abbrev no_sides : Sides
no_sides = record { above = false; above_right = false; left = false; corner = false }

abbrev left_only : Sides
left_only = record no_sides { left = true }

abbrev above_only : Sides
above_only = record no_sides { above = true; above_right = true }

abbrev samples : Around
samples = around (214 ∷ 165 ∷ 77 ∷ 202 ∷ 24 ∷ 37 ∷ 48 ∷ 187 ∷ 29 ∷ []) (214 ∷ 109 ∷ 19 ∷ 44 ∷ 222 ∷ [])

abbrev block : ℕ → List ℕ
block mode = map (λ i. unwrap_or (intra4x4 all_sides samples (mode4x4_of mode) (i % 4) (i / 4)) 0) (range_with_len 0 16)

pub modes4x4 :
    (block 0 ≡ 165 ∷ 77 ∷ 202 ∷ 24 ∷ 165 ∷ 77 ∷ 202 ∷ 24 ∷ 165 ∷ 77 ∷ 202 ∷ 24 ∷ 165 ∷ 77 ∷ 202 ∷ 24 ∷ [])
    × (block 1 ≡ 109 ∷ 109 ∷ 109 ∷ 109 ∷ 19 ∷ 19 ∷ 19 ∷ 19 ∷ 44 ∷ 44 ∷ 44 ∷ 44 ∷ 222 ∷ 222 ∷ 222 ∷ 222 ∷ [])
    × (block 2 ≡ 108 ∷ 108 ∷ 108 ∷ 108 ∷ 108 ∷ 108 ∷ 108 ∷ 108 ∷ 108 ∷ 108 ∷ 108 ∷ 108 ∷ 108 ∷ 108 ∷ 108 ∷ 108 ∷ [])
    × (block 3 ≡ 130 ∷ 126 ∷ 72 ∷ 37 ∷ 126 ∷ 72 ∷ 37 ∷ 80 ∷ 72 ∷ 37 ∷ 80 ∷ 113 ∷ 37 ∷ 80 ∷ 113 ∷ 69 ∷ [])
    × (block 4 ≡ 176 ∷ 155 ∷ 130 ∷ 126 ∷ 113 ∷ 176 ∷ 155 ∷ 130 ∷ 48 ∷ 113 ∷ 176 ∷ 155 ∷ 82 ∷ 48 ∷ 113 ∷ 176 ∷ [])
    × (block 5 ≡ 190 ∷ 121 ∷ 140 ∷ 113 ∷ 176 ∷ 155 ∷ 130 ∷ 126 ∷ 113 ∷ 190 ∷ 121 ∷ 140 ∷ 48 ∷ 176 ∷ 155 ∷ 130 ∷ [])
    × (block 6 ≡ 162 ∷ 176 ∷ 155 ∷ 130 ∷ 64 ∷ 113 ∷ 162 ∷ 176 ∷ 32 ∷ 48 ∷ 64 ∷ 113 ∷ 133 ∷ 82 ∷ 32 ∷ 48 ∷ [])
    × (block 7 ≡ 121 ∷ 140 ∷ 113 ∷ 31 ∷ 130 ∷ 126 ∷ 72 ∷ 37 ∷ 140 ∷ 113 ∷ 31 ∷ 43 ∷ 126 ∷ 72 ∷ 37 ∷ 80 ∷ [])
    × (block 8 ≡ 64 ∷ 48 ∷ 32 ∷ 82 ∷ 32 ∷ 82 ∷ 133 ∷ 178 ∷ 133 ∷ 178 ∷ 222 ∷ 222 ∷ 222 ∷ 222 ∷ 222 ∷ 222 ∷ [])
modes4x4 = (refl, refl, refl, refl, refl, refl, refl, refl, refl)

-- without samples above to the right, the last one above stands for them
pub no_right : map (λ i. unwrap_or (intra4x4 (record all_sides { above_right = false }) samples (mode4x4_of 7) (i % 4) (i / 4)) 0) (range_with_len 0 16) ≡ 121 ∷ 140 ∷ 113 ∷ 24 ∷ 130 ∷ 126 ∷ 69 ∷ 24 ∷ 140 ∷ 113 ∷ 24 ∷ 24 ∷ 126 ∷ 69 ∷ 24 ∷ 24 ∷ []
no_right = refl

pub not_to_be_had : intra4x4 no_corner samples (mode4x4_of 4) 2 1 ≡ None
not_to_be_had = refl

abbrev samples16x16 : Around
samples16x16 = around (153 ∷ 35 ∷ 123 ∷ 46 ∷ 217 ∷ 30 ∷ 63 ∷ 114 ∷ 31 ∷ 203 ∷ 25 ∷ 113 ∷ 23 ∷ 68 ∷ 148 ∷ 214 ∷ 73 ∷ []) (153 ∷ 60 ∷ 157 ∷ 92 ∷ 52 ∷ 96 ∷ 190 ∷ 49 ∷ 32 ∷ 30 ∷ 105 ∷ 254 ∷ 218 ∷ 160 ∷ 238 ∷ 232 ∷ 185 ∷ [])

pub plane16x16 : map (λ i. unwrap_or (intra16x16 all_sides samples16x16 (mode16x16_of 3) (i % 16) (i / 16)) 0) (range_with_len 0 256) ≡ 68 ∷ 68 ∷ 69 ∷ 70 ∷ 71 ∷ 72 ∷ 73 ∷ 74 ∷ 75 ∷ 75 ∷ 76 ∷ 77 ∷ 78 ∷ 79 ∷ 80 ∷ 81 ∷ 75 ∷ 76 ∷ 77 ∷ 78 ∷ 79 ∷ 80 ∷ 81 ∷ 82 ∷ 82 ∷ 83 ∷ 84 ∷ 85 ∷ 86 ∷ 87 ∷ 88 ∷ 89 ∷ 83 ∷ 84 ∷ 85 ∷ 86 ∷ 87 ∷ 88 ∷ 89 ∷ 89 ∷ 90 ∷ 91 ∷ 92 ∷ 93 ∷ 94 ∷ 95 ∷ 96 ∷ 96 ∷ 91 ∷ 92 ∷ 93 ∷ 94 ∷ 95 ∷ 96 ∷ 97 ∷ 97 ∷ 98 ∷ 99 ∷ 100 ∷ 101 ∷ 102 ∷ 103 ∷ 104 ∷ 104 ∷ 99 ∷ 100 ∷ 101 ∷ 102 ∷ 103 ∷ 104 ∷ 104 ∷ 105 ∷ 106 ∷ 107 ∷ 108 ∷ 109 ∷ 110 ∷ 111 ∷ 111 ∷ 112 ∷ 107 ∷ 108 ∷ 109 ∷ 110 ∷ 111 ∷ 111 ∷ 112 ∷ 113 ∷ 114 ∷ 115 ∷ 116 ∷ 117 ∷ 118 ∷ 118 ∷ 119 ∷ 120 ∷ 115 ∷ 116 ∷ 117 ∷ 118 ∷ 118 ∷ 119 ∷ 120 ∷ 121 ∷ 122 ∷ 123 ∷ 124 ∷ 125 ∷ 125 ∷ 126 ∷ 127 ∷ 128 ∷ 123 ∷ 124 ∷ 125 ∷ 126 ∷ 126 ∷ 127 ∷ 128 ∷ 129 ∷ 130 ∷ 131 ∷ 132 ∷ 133 ∷ 133 ∷ 134 ∷ 135 ∷ 136 ∷ 131 ∷ 132 ∷ 133 ∷ 133 ∷ 134 ∷ 135 ∷ 136 ∷ 137 ∷ 138 ∷ 139 ∷ 140 ∷ 140 ∷ 141 ∷ 142 ∷ 143 ∷ 144 ∷ 139 ∷ 140 ∷ 140 ∷ 141 ∷ 142 ∷ 143 ∷ 144 ∷ 145 ∷ 146 ∷ 147 ∷ 147 ∷ 148 ∷ 149 ∷ 150 ∷ 151 ∷ 152 ∷ 147 ∷ 147 ∷ 148 ∷ 149 ∷ 150 ∷ 151 ∷ 152 ∷ 153 ∷ 154 ∷ 154 ∷ 155 ∷ 156 ∷ 157 ∷ 158 ∷ 159 ∷ 160 ∷ 155 ∷ 155 ∷ 156 ∷ 157 ∷ 158 ∷ 159 ∷ 160 ∷ 161 ∷ 162 ∷ 162 ∷ 163 ∷ 164 ∷ 165 ∷ 166 ∷ 167 ∷ 168 ∷ 162 ∷ 163 ∷ 164 ∷ 165 ∷ 166 ∷ 167 ∷ 168 ∷ 169 ∷ 169 ∷ 170 ∷ 171 ∷ 172 ∷ 173 ∷ 174 ∷ 175 ∷ 176 ∷ 170 ∷ 171 ∷ 172 ∷ 173 ∷ 174 ∷ 175 ∷ 176 ∷ 176 ∷ 177 ∷ 178 ∷ 179 ∷ 180 ∷ 181 ∷ 182 ∷ 183 ∷ 183 ∷ 178 ∷ 179 ∷ 180 ∷ 181 ∷ 182 ∷ 183 ∷ 183 ∷ 184 ∷ 185 ∷ 186 ∷ 187 ∷ 188 ∷ 189 ∷ 190 ∷ 190 ∷ 191 ∷ 186 ∷ 187 ∷ 188 ∷ 189 ∷ 190 ∷ 191 ∷ 191 ∷ 192 ∷ 193 ∷ 194 ∷ 195 ∷ 196 ∷ 197 ∷ 198 ∷ 198 ∷ 199 ∷ []
plane16x16 = refl

abbrev chroma_block : Sides → ℕ → List ℕ
chroma_block sides mode =
    map (λ i. unwrap_or (intra_chroma sides (around (215 ∷ 127 ∷ 92 ∷ 124 ∷ 41 ∷ 153 ∷ 253 ∷ 175 ∷ 229 ∷ []) (215 ∷ 147 ∷ 37 ∷ 60 ∷ 214 ∷ 84 ∷ 175 ∷ 77 ∷ 250 ∷ [])) (mode_chroma_of mode) (i % 8) (i / 8)) 0) (range_with_len 0 64)

pub plane_chroma : chroma_block all_sides 3 ≡ 201 ∷ 210 ∷ 219 ∷ 228 ∷ 237 ∷ 246 ∷ 255 ∷ 255 ∷ 204 ∷ 214 ∷ 223 ∷ 232 ∷ 241 ∷ 250 ∷ 255 ∷ 255 ∷ 208 ∷ 217 ∷ 227 ∷ 236 ∷ 245 ∷ 254 ∷ 255 ∷ 255 ∷ 212 ∷ 221 ∷ 230 ∷ 240 ∷ 249 ∷ 255 ∷ 255 ∷ 255 ∷ 216 ∷ 225 ∷ 234 ∷ 243 ∷ 252 ∷ 255 ∷ 255 ∷ 255 ∷ 220 ∷ 229 ∷ 238 ∷ 247 ∷ 255 ∷ 255 ∷ 255 ∷ 255 ∷ 223 ∷ 233 ∷ 242 ∷ 251 ∷ 255 ∷ 255 ∷ 255 ∷ 255 ∷ 227 ∷ 236 ∷ 246 ∷ 255 ∷ 255 ∷ 255 ∷ 255 ∷ 255 ∷ []
plane_chroma = refl

-- with no side, the left one, the upper one and both
pub dc_chroma :
    (chroma_block no_sides 0 ≡ 128 ∷ 128 ∷ 128 ∷ 128 ∷ 128 ∷ 128 ∷ 128 ∷ 128 ∷ 128 ∷ 128 ∷ 128 ∷ 128 ∷ 128 ∷ 128 ∷ 128 ∷ 128 ∷ 128 ∷ 128 ∷ 128 ∷ 128 ∷ 128 ∷ 128 ∷ 128 ∷ 128 ∷ 128 ∷ 128 ∷ 128 ∷ 128 ∷ 128 ∷ 128 ∷ 128 ∷ 128 ∷ 128 ∷ 128 ∷ 128 ∷ 128 ∷ 128 ∷ 128 ∷ 128 ∷ 128 ∷ 128 ∷ 128 ∷ 128 ∷ 128 ∷ 128 ∷ 128 ∷ 128 ∷ 128 ∷ 128 ∷ 128 ∷ 128 ∷ 128 ∷ 128 ∷ 128 ∷ 128 ∷ 128 ∷ 128 ∷ 128 ∷ 128 ∷ 128 ∷ 128 ∷ 128 ∷ 128 ∷ 128 ∷ [])
    × (chroma_block left_only 0 ≡ 115 ∷ 115 ∷ 115 ∷ 115 ∷ 115 ∷ 115 ∷ 115 ∷ 115 ∷ 115 ∷ 115 ∷ 115 ∷ 115 ∷ 115 ∷ 115 ∷ 115 ∷ 115 ∷ 115 ∷ 115 ∷ 115 ∷ 115 ∷ 115 ∷ 115 ∷ 115 ∷ 115 ∷ 115 ∷ 115 ∷ 115 ∷ 115 ∷ 115 ∷ 115 ∷ 115 ∷ 115 ∷ 147 ∷ 147 ∷ 147 ∷ 147 ∷ 147 ∷ 147 ∷ 147 ∷ 147 ∷ 147 ∷ 147 ∷ 147 ∷ 147 ∷ 147 ∷ 147 ∷ 147 ∷ 147 ∷ 147 ∷ 147 ∷ 147 ∷ 147 ∷ 147 ∷ 147 ∷ 147 ∷ 147 ∷ 147 ∷ 147 ∷ 147 ∷ 147 ∷ 147 ∷ 147 ∷ 147 ∷ 147 ∷ [])
    × (chroma_block (record above_only { above_right = false }) 0 ≡ 96 ∷ 96 ∷ 96 ∷ 96 ∷ 203 ∷ 203 ∷ 203 ∷ 203 ∷ 96 ∷ 96 ∷ 96 ∷ 96 ∷ 203 ∷ 203 ∷ 203 ∷ 203 ∷ 96 ∷ 96 ∷ 96 ∷ 96 ∷ 203 ∷ 203 ∷ 203 ∷ 203 ∷ 96 ∷ 96 ∷ 96 ∷ 96 ∷ 203 ∷ 203 ∷ 203 ∷ 203 ∷ 96 ∷ 96 ∷ 96 ∷ 96 ∷ 203 ∷ 203 ∷ 203 ∷ 203 ∷ 96 ∷ 96 ∷ 96 ∷ 96 ∷ 203 ∷ 203 ∷ 203 ∷ 203 ∷ 96 ∷ 96 ∷ 96 ∷ 96 ∷ 203 ∷ 203 ∷ 203 ∷ 203 ∷ 96 ∷ 96 ∷ 96 ∷ 96 ∷ 203 ∷ 203 ∷ 203 ∷ 203 ∷ [])
    × (chroma_block (record no_corner { above_right = false }) 0 ≡ 105 ∷ 105 ∷ 105 ∷ 105 ∷ 203 ∷ 203 ∷ 203 ∷ 203 ∷ 105 ∷ 105 ∷ 105 ∷ 105 ∷ 203 ∷ 203 ∷ 203 ∷ 203 ∷ 105 ∷ 105 ∷ 105 ∷ 105 ∷ 203 ∷ 203 ∷ 203 ∷ 203 ∷ 105 ∷ 105 ∷ 105 ∷ 105 ∷ 203 ∷ 203 ∷ 203 ∷ 203 ∷ 147 ∷ 147 ∷ 147 ∷ 147 ∷ 175 ∷ 175 ∷ 175 ∷ 175 ∷ 147 ∷ 147 ∷ 147 ∷ 147 ∷ 175 ∷ 175 ∷ 175 ∷ 175 ∷ 147 ∷ 147 ∷ 147 ∷ 147 ∷ 175 ∷ 175 ∷ 175 ∷ 175 ∷ 147 ∷ 147 ∷ 147 ∷ 147 ∷ 175 ∷ 175 ∷ 175 ∷ 175 ∷ [])
dc_chroma = (refl, refl, refl, refl)

-- ---- a macroblock at the picture's corner, at its upper edge, at its left edge and inside, by hand from the formulas

-- 128; (109 + 19 + 44 + 222 + 2) >> 2; (165 + 77 + 202 + 24 + 2) >> 2
pub dc_4x4 :
    (intra4x4 no_sides samples (mode4x4_of 2) 1 3 ≡ Some 128)
    × (intra4x4 left_only samples (mode4x4_of 2) 1 3 ≡ Some 99)
    × (intra4x4 above_only samples (mode4x4_of 2) 1 3 ≡ Some 117)
dc_4x4 = (refl, refl, refl)

-- at the upper edge the modes from the left remain, 1 and 8, and at the left edge those from above, 0, 3 and 7
pub remaining_4x4 :
    (map (λ m. is_some (intra4x4 left_only samples (mode4x4_of m) 1 3)) (range_with_len 0 9) ≡ false ∷ true ∷ true ∷ false ∷ false ∷ false ∷ false ∷ false ∷ true ∷ [])
    × (map (λ m. is_some (intra4x4 above_only samples (mode4x4_of m) 1 3)) (range_with_len 0 9) ≡ true ∷ false ∷ true ∷ true ∷ false ∷ false ∷ false ∷ true ∷ false ∷ [])
remaining_4x4 = (refl, refl)

-- the sums are 1526 above and 2150 on the left: (3676 + 16) >> 5; (2150 + 8) >> 4; (1526 + 8) >> 4
pub dc_16x16 :
    (intra16x16 all_sides samples16x16 (mode16x16_of 2) 3 5 ≡ Some 115)
    × (intra16x16 left_only samples16x16 (mode16x16_of 2) 3 5 ≡ Some 134)
    × (intra16x16 above_only samples16x16 (mode16x16_of 2) 3 5 ≡ Some 95)
    × (intra16x16 no_sides samples16x16 (mode16x16_of 2) 3 5 ≡ Some 128)
dc_16x16 = (refl, refl, refl, refl)

-- the sample above column 9, and that left of row 10
pub modes_16x16 :
    (intra16x16 above_only samples16x16 (mode16x16_of 0) 9 10 ≡ Some 25)
    × (intra16x16 left_only samples16x16 (mode16x16_of 1) 9 10 ≡ Some 254)
    × (intra16x16 no_corner samples16x16 (mode16x16_of 3) 9 10 ≡ None)
modes_16x16 = (refl, refl, refl)

-- of the chroma modes at the upper edge the first two remain, and at the left edge the first and the third
pub modes_chroma :
    (map (λ m. is_some (intra_chroma left_only samples (mode_chroma_of m) 1 3)) (range_with_len 0 4) ≡ true ∷ true ∷ false ∷ false ∷ [])
    × (map (λ m. is_some (intra_chroma above_only samples (mode_chroma_of m) 1 3)) (range_with_len 0 4) ≡ true ∷ false ∷ true ∷ false ∷ [])
    × (intra_chroma left_only samples (mode_chroma_of 1) 1 3 ≡ Some 222)
    × (intra_chroma above_only samples (mode_chroma_of 2) 1 3 ≡ Some 77)
modes_chroma = (refl, refl, refl, refl)
