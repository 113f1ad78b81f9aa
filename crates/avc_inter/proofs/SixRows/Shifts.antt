-- Shifts and sums in few bits, lanes and lines of samples, and places about a plane.
pub mod Common
unfoldable pub use Common.*

-- ---- a shift right by its bounds, and the sum of six taps in sixteen bits

pub by_4 : (z : ℤ) → ((pos 4 *ℤ (z >>ℤ 2)) ≤ℤ z) × (z ≤ℤ (pos 4 *ℤ (z >>ℤ 2) +ℤ pos 3))
by_4 (pos a) = (omega (arith, ints), omega (arith, ints))
by_4 (negsuc a) = (omega (arith, ints), omega (arith, ints))

pub by_64 : (z : ℤ) → ((pos 64 *ℤ (z >>ℤ 6)) ≤ℤ z) × (z ≤ℤ (pos 64 *ℤ (z >>ℤ 6) +ℤ pos 63))
by_64 (pos a) = (omega (arith, ints), omega (arith, ints))
by_64 (negsuc a) = (omega (arith, ints), omega (arith, ints))

by_32 : (z : ℤ) → ((pos 32 *ℤ (z >>ℤ 5)) ≤ℤ z) × (z ≤ℤ (pos 32 *ℤ (z >>ℤ 5) +ℤ pos 31))
by_32 (pos a) = (omega (arith, ints), omega (arith, ints))
by_32 (negsuc a) = (omega (arith, ints), omega (arith, ints))

-- a 64th of twice a number, which a call sees through its bits, is a 32nd of it
pub of_twice : (t v z : ℤ) → neg_ℤ (pos 5068) ≤ℤ t → t ≤ℤ pos 21452 → t ≡ pos 2 *ℤ z → (pos 64 *ℤ v) ≤ℤ to_z w16 (of_z w16 t) → to_z w16 (of_z w16 t) ≤ℤ (pos 64 *ℤ v +ℤ pos 63) → v ≡ (z >>ℤ 5)
of_twice t v z low high twice least most =
    let same : to_z w16 (of_z w16 t) ≡ t = omega (arith, ints, low, high) in
    let b = by_32 z in
    omega (arith, ints, same, twice, least, most, b.0, b.1)

by_1024 : (z : ℤ) → ((pos 1024 *ℤ (z >>ℤ 10)) ≤ℤ z) × (z ≤ℤ (pos 1024 *ℤ (z >>ℤ 10) +ℤ pos 1023))
by_1024 (pos a) = (omega (arith, ints), omega (arith, ints))
by_1024 (negsuc a) = (omega (arith, ints), omega (arith, ints))

-- samples on one side of the range are clipped alike
clip_low : (v w : ℤ) → v <ℤ pos 0 → w <ℤ pos 0 → clip1 v ≡ clip1 w
clip_low (negsuc n) (negsuc m) p q = refl
clip_low (negsuc n) (pos m) p q = omega (arith, ints)
clip_low (pos n) w p q = omega (arith, ints)

clip_high : (v w : ℤ) → pos 255 <ℤ v → pos 255 <ℤ w → clip1 v ≡ clip1 w
clip_high v w p q = search (arith, ints)

above : (a b c t d e q u x v w : ℤ) → IsPair a → IsPair b → d ≡ a -ℤ b → (pos 4 *ℤ t) ≤ℤ d → e ≡ t -ℤ b → pos 32767 <ℤ (e +ℤ c) → q ≡ pos 32767 →
    q ≤ℤ (pos 4 *ℤ u +ℤ pos 3) → x ≡ u +ℤ c +ℤ pos 32 → x ≤ℤ (pos 64 *ℤ v +ℤ pos 63) → (a -ℤ pos 5 *ℤ b +ℤ pos 20 *ℤ c +ℤ pos 512) ≤ℤ (pos 1024 *ℤ w +ℤ pos 1023) → clip1 v ≡ clip1 w
above a b c t d e q u x v w pa pb dd tl ee over qq uh xx vh wh =
    let big : pos 21038 ≤ℤ c = omega (arith, ints, pa.high, pb.low) in
    clip_high v w (omega (arith, ints)) (omega (arith, ints, pa.low, pb.high))

below : (a b c t d e q u x v w : ℤ) → IsPair a → IsPair b → d ≡ a -ℤ b → d ≤ℤ (pos 4 *ℤ t +ℤ pos 3) → e ≡ t -ℤ b → (e +ℤ c) <ℤ neg_ℤ (pos 32768) → q ≡ neg_ℤ (pos 32768) →
    (pos 4 *ℤ u) ≤ℤ q → x ≡ u +ℤ c +ℤ pos 32 → (pos 64 *ℤ v) ≤ℤ x → (pos 1024 *ℤ w) ≤ℤ (a -ℤ pos 5 *ℤ b +ℤ pos 20 *ℤ c +ℤ pos 512) → clip1 v ≡ clip1 w
below a b c t d e q u x v w pa pb dd th ee under qq ul xx vl wl =
    let small : c ≤ℤ neg_ℤ (pos 4719) = omega (arith, ints, pa.low, pb.high) in
    clip_low v w (omega (arith, ints)) (omega (arith, ints, pa.high, pb.low))

-- where the sum of sixteen bits is exact, in thirds of the way: a quarter, a sixteenth, and the whole
exact_by : (a b c d t e q u x v w : ℤ) → d ≡ a -ℤ b → (pos 4 *ℤ t) ≤ℤ d → d ≤ℤ (pos 4 *ℤ t +ℤ pos 3) → e ≡ t -ℤ b → q ≡ e +ℤ c →
    (pos 4 *ℤ u) ≤ℤ q → q ≤ℤ (pos 4 *ℤ u +ℤ pos 3) → x ≡ u +ℤ c +ℤ pos 32 → (pos 64 *ℤ v) ≤ℤ x → x ≤ℤ (pos 64 *ℤ v +ℤ pos 63) →
    (pos 1024 *ℤ w) ≤ℤ (a -ℤ pos 5 *ℤ b +ℤ pos 20 *ℤ c +ℤ pos 512) → (a -ℤ pos 5 *ℤ b +ℤ pos 20 *ℤ c +ℤ pos 512) ≤ℤ (pos 1024 *ℤ w +ℤ pos 1023) → v ≡ w
exact_by a b c d t e q u x v w dd tl th ee qq ul uh xx vl vh wl wh = omega (arith, ints)

-- by sixteen bits, and at once
pub near : (a b c d t e q u x v : ℤ) → IsPair a → IsPair b → IsPair c →
    d ≡ a -ℤ b → (pos 4 *ℤ t) ≤ℤ d → d ≤ℤ (pos 4 *ℤ t +ℤ pos 3) → e ≡ t -ℤ b →
    (neg_ℤ (pos 32768) ≤ℤ (e +ℤ c) → (e +ℤ c) ≤ℤ pos 32767 → q ≡ e +ℤ c) → ((e +ℤ c) <ℤ neg_ℤ (pos 32768) → q ≡ neg_ℤ (pos 32768)) → (pos 32767 <ℤ (e +ℤ c) → q ≡ pos 32767) →
    (pos 4 *ℤ u) ≤ℤ q → q ≤ℤ (pos 4 *ℤ u +ℤ pos 3) → x ≡ u +ℤ c +ℤ pos 32 → (pos 64 *ℤ v) ≤ℤ x → x ≤ℤ (pos 64 *ℤ v +ℤ pos 63) →
    clip1 v ≡ clip1 (a -ℤ pos 5 *ℤ b +ℤ pos 20 *ℤ c +ℤ pos 512 >>ℤ 10)
near a b c d t e q u x v pa pb pc dd tl th ee in_range at_least at_most ul uh xx vl vh =
    let all = a -ℤ pos 5 *ℤ b +ℤ pos 20 *ℤ c +ℤ pos 512 in
    let w = all >>ℤ 10 in
    let whole = by_1024 all in
    by_lt_z (e +ℤ c) (neg_ℤ (pos 32768))
    (λ under. below a b c t d e q u x v w pa pb dd th ee under (at_least under) ul xx vl whole.0)
    (λ low. by_lt_z (pos 32767) (e +ℤ c)
    (λ over. above a b c t d e q u x v w pa pb dd tl ee over (at_most over) uh xx vh whole.1)
    (λ high. ap clip1 (exact_by a b c d t e q u x v w dd tl th ee (in_range low high) ul uh xx vl vh whole.0 whole.1)))

-- numbers that calls see through their bits
pub back : (z : ℤ) → neg_ℤ (pos 32768) ≤ℤ z → z ≤ℤ pos 32767 → to_z w16 (of_z w16 z) ≡ z
back z p q = omega (arith, ints)

pub first_is : (a b : ℤ) → IsPair a → IsPair b → to_z w16 (of_z w16 (to_z w16 (of_z w16 a) -ℤ to_z w16 (of_z w16 b))) ≡ a -ℤ b
first_is a b p q =
    rw (back a (omega (arith, ints, p.low)) (omega (arith, ints, p.high)), back b (omega (arith, ints, q.low)) (omega (arith, ints, q.high)))
    (back (a -ℤ b) (omega (arith, ints, p.low, q.high)) (omega (arith, ints, p.high, q.low)))

pub second_is : (a b d t : ℤ) → IsPair a → IsPair b → d ≡ a -ℤ b → (pos 4 *ℤ t) ≤ℤ d → d ≤ℤ (pos 4 *ℤ t +ℤ pos 3) →
    to_z w16 (of_z w16 (to_z w16 (of_z w16 t) -ℤ to_z w16 (of_z w16 b))) ≡ t -ℤ b
second_is a b d t p q e r s =
    let pl = p.low in
    let ph = p.high in
    let ql = q.low in
    let qh = q.high in
    rw (back t (omega (arith, ints)) (omega (arith, ints)), back b (omega (arith, ints)) (omega (arith, ints)))
    (back (t -ℤ b) (omega (arith, ints)) (omega (arith, ints)))

pub third_is : (c q u : ℤ) → IsPair c → neg_ℤ (pos 32768) ≤ℤ q → q ≤ℤ pos 32767 → (pos 4 *ℤ u) ≤ℤ q → q ≤ℤ (pos 4 *ℤ u +ℤ pos 3) →
    to_z w16 (of_z w16 (to_z w16 (of_z w16 (to_z w16 (of_z w16 u) +ℤ to_z w16 (of_z w16 c))) +ℤ pos 32)) ≡ u +ℤ c +ℤ pos 32
third_is c q u p l h r s =
    let pl = p.low in
    let ph = p.high in
    rw (back u (omega (arith, ints)) (omega (arith, ints)), back c (omega (arith, ints)) (omega (arith, ints)), back (u +ℤ c) (omega (arith, ints)) (omega (arith, ints)))
    (back (u +ℤ c +ℤ pos 32) (omega (arith, ints)) (omega (arith, ints)))

-- the taps by pairs
pub by_pairs : (e f g h i j e' f' g' h' i' j' a b c a' b' c' : ℤ) → e' ≡ e → f' ≡ f → g' ≡ g → h' ≡ h → i' ≡ i → j' ≡ j →
    a ≡ e' +ℤ j' → b ≡ f' +ℤ i' → c ≡ g' +ℤ h' → a' ≡ a → b' ≡ b → c' ≡ c →
    a' -ℤ pos 5 *ℤ b' +ℤ pos 20 *ℤ c' +ℤ pos 512 ≡ six_taps e f g h i j +ℤ pos 512
by_pairs e f g h i j e' f' g' h' i' j' a b c a' b' c' k l m n o p q r s t u v = omega (arith, ints)

pub back_pair : (z : ℤ) → IsPair z → to_z w16 (of_z w16 z) ≡ z
back_pair z p = back z (omega (arith, ints, p.low)) (omega (arith, ints, p.high))

pub same_taps : (e f g h i j e' f' g' h' i' j' : ℕ) → e ≡ e' → f ≡ f' → g ≡ g' → h ≡ h' → i ≡ i' → j ≡ j' →
    six_taps (pos e) (pos f) (pos g) (pos h) (pos i) (pos j) ≡ six_taps (pos e') (pos f') (pos g') (pos h') (pos i') (pos j')
same_taps e f g h i j e' f' g' h' i' j' a b c d x y = cc (a, b, c, d, x, y)

pub same_centre : (e f g h i j e' f' g' h' i' j' : ℤ) → e ≡ e' → f ≡ f' → g ≡ g' → h ≡ h' → i ≡ i' → j ≡ j' →
    clip1 (six_taps e f g h i j +ℤ pos 512 >>ℤ 10) ≡ clip1 (six_taps e' f' g' h' i' j' +ℤ pos 512 >>ℤ 10)
same_centre e f g h i j e' f' g' h' i' j' a b c d x y = cc (a, b, c, d, x, y)

of_sum : (z : ℤ) → IsSum z → to_z w16 (of_z w16 z) ≡ z
of_sum z p = omega (arith, ints, p.low, p.high)

pub still_sum : (z : ℤ) → IsSum z → IsSum (to_z w16 (of_z w16 z))
still_sum z p = rw (of_sum z p) p

pub centre_cast : (e f g h i j : ℤ) (r : ℕ) → IsSum e → IsSum f → IsSum g → IsSum h → IsSum i → IsSum j →
    r ≡ clip1 (six_taps (to_z w16 (of_z w16 e)) (to_z w16 (of_z w16 f)) (to_z w16 (of_z w16 g)) (to_z w16 (of_z w16 h)) (to_z w16 (of_z w16 i)) (to_z w16 (of_z w16 j)) +ℤ pos 512 >>ℤ 10) →
    r ≡ clip1 (six_taps e f g h i j +ℤ pos 512 >>ℤ 10)
centre_cast e f g h i j r p q s t u v is =
    is ∙ same_centre _ _ _ _ _ _ _ _ _ _ _ _ (of_sum e p) (of_sum f q) (of_sum g s) (of_sum h t) (of_sum i u) (of_sum j v)

-- ---- lanes one by one

pub sums_small : (m n : ℕ) (a b : List ℕ) → Each1 (λ x. x ≤ m) a → Each1 (λ y. y ≤ n) b → Each1 (λ z. z ≤ m + n) (zip2 (λ x y. x + y) a b)
sums_small m n a b p q =
    Each1-zip2 (λ x y. x + y) (λ z. z ≤ m + n) a b (Each2-of (λ x. x ≤ m) (λ y. y ≤ n) (λ x y. x + y ≤ m + n) (λ x y h k. omega arith) a b p q)

pub multiples_small : (m by : ℕ) (a : List ℕ) → Each1 (λ x. x ≤ m) a → Each1 (λ z. z ≤ m * by) (map (λ x. x * by) a)
multiples_small m by [] p = tt
multiples_small m by (x ∷ xs) p = (mul-le-mul_right by p.0, multiples_small m by xs p.1)

-- numbers that fit stay as they are through their bits
pub get_or-through_bits : (w : Width) (ds : List ℤ) (k : ℕ) → FitsSigned w (get_or ds k (pos 0)) → get_or (map (to_z w) (map (of_z w) ds)) k (pos 0) ≡ get_or ds k (pos 0)
get_or-through_bits w [] k h = refl
get_or-through_bits w (d ∷ ds) zero h = to_z-of_z w d h
get_or-through_bits w (d ∷ ds) (suc k) h = get_or-through_bits w ds k h

-- lane k of a row that was loaded
pub lane_of_row : (r q v : List ℕ) (k : ℕ) → v ≡ chunk 0 16 q → q ≡ r → k < 16 → get_or v k 0 ≡ get_or r k 0
lane_of_row r q v k e same h =
    ap (λ (w : List ℕ). get_or w k 0) e ∙ get_or-chunk 0 16 q k 0 h ∙ ap (λ n. get_or q n 0) (omega arith) ∙ ap (λ (w : List ℕ). get_or w k 0) same

-- lanes that are small enough to be added
pub addable : (n : ℕ) (v : List ℕ) → n ≤ 16383 → Each1 (λ x. x ≤ n) v → Each1 (λ x. x ≤ 16383) v
addable n v low small = Each1-weaker (λ x. x ≤ n) (λ x. x ≤ 16383) (λ x p. omega (arith, p, low)) v small

-- the taps, positive ones apart from negative ones
pub six_taps_apart : (e f g h i j s m : ℕ) → s ≡ e + j + (g + h) * 20 → m ≡ (f + i) * 5 → pos s -ℤ pos m ≡ six_taps (pos e) (pos f) (pos g) (pos h) (pos i) (pos j)
six_taps_apart e f g h i j s m p q = omega (arith, ints)

-- a store of sixteen results behind those that are there
pub stored_more : (P : ℕ → ℤ → Type 0) (dst r : List ℤ) (at : ℕ) → at + 16 ≤ length dst → length r ≡ 16 →
    ((k : ℕ) → k < 16 → FitsSigned w32 (get_or r k (pos 0))) →
    ((k : ℕ) → k < at → P k (get_or dst k (pos 0))) → ((j : ℕ) → j < 16 → P (at + j) (get_or r j (pos 0))) →
    (k : ℕ) → k < at + 16 → P k (get_or (put_chunk at dst (map (to_z w32) (map (of_z w32) r))) k (pos 0))
stored_more P dst r at room long fits old new k h =
    let ys = map (to_z w32) (map (of_z w32) r) in
    let n : length ys ≡ 16 = length-map (map (of_z w32) r) (to_z w32) ∙ length-map r (of_z w32) ∙ long in
    ⊎_elim (λ below. subst (P k) (sym (get_or-put_chunk_below at dst ys k (pos 0) below)) (old k below))
    (λ above.
    let j = k - at in
    let place : at + j ≡ k = omega arith in
    let within : j < 16 = omega arith in
    let value = get_or-put_chunk_at at dst ys j (pos 0) (omega arith) (omega arith) ∙ get_or-through_bits w32 r j (fits j within) in
    subst (λ i. P i (get_or (put_chunk at dst ys) i (pos 0))) place (subst (P (at + j)) (sym value) (new j within)))
    (cases_lt k at)

-- ---- places in a plane's padded rows

-- a rectangle inside the plane, whose upper left sample is in column x and row y
module _ (pad : ℕ) (p : Plane) (rows : List ℕ) (all : IsSurrounded pad p rows) (x y w h first stride : ℕ) (columns : x + w ≤ p.width) (lines : y + h ≤ p.height)
    (is_first : first ≡ stored_place pad p.width x y) (is_stride : stride ≡ stride_of pad p.width) where
  pub room_inside : IsRoom w h first stride (length rows)
  room_inside = rw (is_first, is_stride) (room pad (stride_of pad p.width) p.width p.height x y w h rows (stride_wide pad p.width) all.long columns lines)

  pub sample_inside : (i j : ℕ) → i < w → j < h → slice_index rows (first + j * stride + i) ≡ wide_of p (pos x +ℤ pos i) (pos y +ℤ pos j)
  sample_inside i j column row =
      rw (is_first, is_stride)
      (ap (slice_index rows) (omega (arith, add-mul (y + pad) j (stride_of pad p.width)))
      ∙ all.near (x + pad + i) (y + pad + j) (omega (arith, stride_wide pad p.width)) (omega arith)
      ∙ same_place (wide_of p) (pos (x + pad + i) -ℤ pos pad) (pos (y + pad + j) -ℤ pos pad) (pos x +ℤ pos i) (pos y +ℤ pos j) (omega (arith, ints)) (omega (arith, ints)))

-- ---- lines of samples that are copied four at a time, each four counted from their first sample on

pub fours : (four stride : ℕ) → four * (4 * stride) ≡ 4 * four * stride
fours four stride = search arith

pub line_of_four : (start four y stride : ℕ) → start + four * (4 * stride) + y * stride ≡ start + (4 * four + y) * stride
line_of_four start four y stride = omega (arith, fours four stride, add-mul (4 * four) y stride)

-- four lines of those that there is room for
pub room_of_four : (w h start stride long four : ℕ) → IsRoom w h start stride long → four < h / 4 → IsRoom w 4 (start + four * (4 * stride)) stride long
room_of_four w h start stride long four room below y low =
    omega (arith, room (4 * four + y) (omega arith), line_of_four start four y stride)

pub begins : (w h start stride long four : ℕ) → IsRoom w h start stride long → four < h / 4 → start + four * (4 * stride) ≤ long
begins w h start stride long four room below = omega (arith, room_of_four w h start stride long four room below 0 (omega arith))

-- ---- a part of a list behind its first `a` elements

abbrev pub rest : (a : ℕ) → List ℕ → List ℕ
rest a xs = take (length xs - a) (drop a xs)

in_rest : (a k : ℕ) (xs : List ℕ) → a + k < length xs → slice_index (rest a xs) k ≡ slice_index xs (a + k)
in_rest a k xs within = get_or-take (length xs - a) (drop a xs) k 0 (omega arith) ∙ get_or-drop a xs k 0

-- lines that are set in the rest of a list are set in the list
module _ (w h from source_stride to stride : ℕ) (p old new : List ℕ) (some : 0 < h)
    (source : IsRoom w h from source_stride (length p)) (room : IsRoom w h to stride (length old))
    (set : IsStridedSet w h 0 stride (λ x y. slice_index (rest from p) (0 + y * source_stride + x)) (rest to old) new) where
  long_rest : to + length new ≡ length old
  long_rest = omega (arith, room 0 some, set.long, length-take-le (length old - to) (drop to old) (omega (arith, length-drop to old)))

  is_chunk : put_mid to (length old - to) old new ≡ put_chunk to old new
  is_chunk =
      let all : length old - to ≡ length new = omega (arith, long_rest) in
      ap (λ n. take to old ++ (new ++ drop n (drop to old))) all ∙ sym (put_chunk_is to old new (omega (arith, long_rest)))

  at_place : (y x : ℕ) → y < h → x < w → slice_index (put_chunk to old new) (to + y * stride + x) ≡ slice_index p (from + y * source_stride + x)
  at_place y x low column =
      ap (slice_index (put_chunk to old new)) (omega arith)
      ∙ get_or-put_chunk_at to old new (0 + y * stride + x) 0 (omega (arith, long_rest, room y low)) (omega (arith, long_rest))
      ∙ set.inside y low x column
      ∙ in_rest from (0 + y * source_stride + x) p (omega (arith, source y low))
      ∙ ap (slice_index p) (omega arith)

  elsewhere : IsSameOutside w h to stride old (put_chunk to old new)
  elsewhere j apart = elim (cases_lt j to) [
    | inl before ↦ get_or-put_chunk_below to old new j 0 before
    | inr behind ↦ elim (cases_lt j (length old)) [
      | inl within ↦
          ap (slice_index (put_chunk to old new)) (omega arith)
          ∙ get_or-put_chunk_at to old new (j - to) 0 (omega (arith, long_rest)) (omega (arith, long_rest))
          ∙ set.outside (j - to) (λ x y column low e. apart x y column low (omega (arith, e)))
          ∙ in_rest to (j - to) old (omega arith)
          ∙ ap (slice_index old) (omega arith)
      | inr past ↦ get_or-put_chunk_above to old new j 0 (omega (arith, long_rest))
    ]
  ]

  pub set_in_rest : IsStridedSet w h to stride (λ x y. slice_index p (from + y * source_stride + x)) old (put_mid to (length old - to) old new)
  set_in_rest = rw is_chunk (record {
    long = length-put_chunk to old new;
    inside = λ y low x column. at_place y x low column;
    outside = elsewhere;
  })

-- ---- a loop that fills a list from the front

pub stored : {X : Type 0} (P : ℕ → X → Type 0) (xs : List X) (n : ℕ) (v d : X) → n < length xs → P n v → ((k : ℕ) → k < n → P k (get_or xs k d)) →
    (k : ℕ) → k < n + 1 → P k (get_or (slice_set xs n v) k d)
stored P xs n v d room new old k h =
    ⊎_elim (λ below. subst (P k) (sym (get_or-set_other xs n k v d (λ e. omega arith))) (old k below))
    (λ above.
    let e : n ≡ k = omega arith in
    subst (λ i. P i (get_or (slice_set xs n v) i d)) e (subst (P n) (sym (get_or-set_same xs n v d room)) new))
    (cases_lt k n)

-- from place `a` on
pub stored_at : {X : Type 0} (P : ℕ → X → Type 0) (xs : List X) (a n : ℕ) (v d : X) → a + n < length xs → P n v → ((k : ℕ) → k < n → P k (get_or xs (a + k) d)) →
    (k : ℕ) → k < n + 1 → P k (get_or (slice_set xs (a + n) v) (a + k) d)
stored_at P xs a n v d room new old k h =
    ⊎_elim (λ below. subst (P k) (sym (get_or-set_other xs (a + n) (a + k) v d (λ e. omega arith))) (old k below))
    (λ above.
    let e : n ≡ k = omega arith in
    subst (λ i. P i (get_or (slice_set xs (a + n) v) (a + i) d)) e (subst (P n) (sym (get_or-set_same xs (a + n) v d room)) new))
    (cases_lt k n)

-- ---- a block sample by sample

pub back_within : (z : ℤ) → IsWithin 128 z → to_z w32 (of_z w32 z) ≡ z
back_within z p = omega (arith, ints, p.low, p.high)

pub mapped_is : (width height : ℕ) (f : ℕ → ℕ) (block samples : List ℕ) → length block ≡ width * height → ((k : ℕ) → k < width * height → slice_index samples k ≡ f (slice_index block k)) →
    block_of width height (λ x y. slice_index samples (0 + y * width + x)) ≡ map f block
mapped_is width height f block samples long all =
    sym (fill_by_all (λ i. slice_index samples (0 + (i / width) * width + i % width)) (map f block) (width * height) 0 (length-map block f ∙ long)
    (λ k below. get_or-map f block k 0 0 (omega arith) ∙ sym (all k below) ∙ ap (λ i. slice_index samples i) (omega (arith, place_of_sample width height k below))))
