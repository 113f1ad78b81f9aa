-- Frames as reference frames, and blocks by their samples.
pub mod Common
unfoldable pub use Common.*

-- ---- blocks by their samples

module _ (width height k : ℕ) (below : k < width * height) where
  pub some_column : 0 < width
  some_column = search (rules, cases_lt)

  pub column : k % width < width
  column = mod_below k width some_column

  pub row : k / width < height
  row = (div-lt_iff_lt-mul some_column).1 (omega (arith, mul_comm width height))

  pub place_of_sample : (k / width) * width + k % width ≡ k
  place_of_sample = omega (arith, mul_comm (k / width) width, some_column)

-- a list that begins with the samples of a block is, that far, the block
pub block_is : (width height : ℕ) (f : ℕ → ℕ → ℕ) (samples : List ℕ) → width * height ≤ length samples →
    ((x y : ℕ) → x < width → y < height → slice_index samples (y * width + x) ≡ f x y) → take (width * height) samples ≡ block_of width height f
block_is width height f samples long all =
    fill_by_all (λ i. f (i % width) (i / width)) (take (width * height) samples) (width * height) 0 (length-take-le (width * height) samples long)
    (λ k below. get_or-take (width * height) samples k 0 below ∙ ap (λ i. slice_index samples i) (omega (arith, place_of_sample width height k below)) ∙ all (k % width) (k / width) (column width height k below) (row width height k below))

pub ruleset block_rules = (block_is, mul-le)

-- blocks that have the same samples are the same
pub block_of_same : (width height : ℕ) (f g : ℕ → ℕ → ℕ) → ((x y : ℕ) → x < width → y < height → f x y ≡ g x y) → block_of width height f ≡ block_of width height g
block_of_same width height f g same =
    fill_by_all (λ i. g (i % width) (i / width)) (block_of width height f) (width * height) 0 (length-map-range_with_len (λ i. f (i % width) (i / width)) 0 (width * height))
    (λ k below. get_or-map-range_with_len (λ i. f (i % width) (i / width)) 0 (width * height) k k 0 below (omega arith) ∙ same (k % width) (k / width) (column width height k below) (row width height k below))

-- ---- levels of which none is counted

abbrev weight : ℤ → ℕ
weight l = cond (not (nat_abs l == 0)) 1 0

pub total-append : (a b : List ℤ) → total_coeff (a ++ b) ≡ total_coeff a + total_coeff b
total-append a b = sum_by-append weight a b

pub counted : (l : ℤ) (levels : List ℤ) → 0 < nat_abs l → total_coeff (l ∷ levels) ≡ 1 + total_coeff levels
counted l levels some =
    let other : (nat_abs l == 0) ≡ false = grind (arith, nat_tests) in
    sum_by-cons weight l levels ∙ rw other refl

pub none_counted : (levels : List ℤ) → total_coeff levels ≡ 0 → levels ≡ replicate (length levels) (pos 0)
none_counted [] none = refl
none_counted (pos zero ∷ levels) none = ap (λ l. pos 0 ∷ l) (none_counted levels none)
none_counted (l ∷ levels) none = absurd (omega (arith, none, counted l levels (omega arith)))

-- ---- sorted lists, and the reference frames among frames of the buffer

-- x stands behind y where y stands before it, and else here
pub placed_behind : {A : Type 0} (before : A → A → Bool) (x y : A) (ys : List A) → before y x ≡ true → placed_by before x (y ∷ ys) ≡ y ∷ placed_by before x ys
placed_behind before x y ys h = ap (λ b. elim b [ true ↦ y ∷ placed_by before x ys | false ↦ x ∷ y ∷ ys ]) h

pub placed_here : {A : Type 0} (before : A → A → Bool) (x y : A) (ys : List A) → before y x ≡ false → placed_by before x (y ∷ ys) ≡ x ∷ y ∷ ys
placed_here before x y ys h = ap (λ b. elim b [ true ↦ y ∷ placed_by before x ys | false ↦ x ∷ y ∷ ys ]) h

-- Those from a place on, where the frame at the place is used for reference, and where it is not.
pub references_with : (indices : List ℕ) (frames : List MarkedFrame) (place next : ℕ) → next ≡ suc place → place < length indices → place < length frames →
    is_some (slice_index_or frames place no_frame).mark ≡ true →
    references_at (drop place indices) (drop place frames) ≡ reference_at indices frames place ∷ references_at (drop next indices) (drop next frames)
references_with indices frames place next e within within' marked = search (rules, drop-cons)

pub references_without : (indices : List ℕ) (frames : List MarkedFrame) (place next : ℕ) → next ≡ suc place → place < length indices → place < length frames →
    is_some (slice_index_or frames place no_frame).mark ≡ false →
    references_at (drop place indices) (drop place frames) ≡ references_at (drop next indices) (drop next frames)
references_without indices frames place next e within within' unmarked = rw (e, drop-cons indices place 0 within, drop-cons frames place no_frame within') (search rules)

-- ---- frames as reference frames: which of them a test finds: rising entries

pub rising_rest : (e : ℕ) (es : List ℕ) → IsStrictlyIncreasing (e ∷ es) → IsStrictlyIncreasing es
rising_rest e es rising = λ k h. AllPairs-from_increasing (e ∷ es) rising (suc k) (suc (k + 1)) 0 (omega arith) (omega arith)

pub below_rest : (e : ℕ) (es : List ℕ) (k : ℕ) → IsStrictlyIncreasing (e ∷ es) → k < length es → e < slice_index es k
below_rest e es k rising h = AllPairs-from_increasing (e ∷ es) rising 0 (suc k) 0 (omega arith) (omega arith)

pub stand_rest : (e : ℕ) (es : List ℕ) (f : MarkedFrame) (fs : List MarkedFrame) → StandAt (e ∷ es) (f ∷ fs) → StandAt es fs
stand_rest e es f fs s = record { each = omega (arith, s.each); rising = rising_rest e es s.rising }

-- ---- a test that reads no entry

abbrev pub falling : Reference → Reference → Bool
falling a b = nat_lt b.decoding_index a.decoding_index

first-placed : (before : Reference → Reference → Bool) (r x : Reference) (ys : List Reference) → slice_get ys 0 ≡ Some x → before x r ≡ true → slice_get (placed_by before r ys) 0 ≡ Some x
first-placed before r x [] h b = cc
first-placed before r x (y ∷ ys) h b = search (rules, placed_behind)

module _ (q : Reference → Bool) (free : (e : ℕ) (f : MarkedFrame) → q (reference_of e f) ≡ q (reference_of 0 f)) where
  -- it passes over one frame more in front or takes it
  filter-references : (e : ℕ) (es : List ℕ) (f : MarkedFrame) (fs : List MarkedFrame) →
      filter q (references_at (e ∷ es) (f ∷ fs)) ≡ elim (is_marked q f) [ true ↦ reference_of e f ∷ filter q (references_at es fs) | false ↦ filter q (references_at es fs) ]
  filter-references e es f fs = search rules

  -- nothing is found
  pub filter-none : (es : List ℕ) (fs : List MarkedFrame) → length es ≡ length fs → ((k : ℕ) → k < length fs → is_marked q (slice_index_or fs k no_frame) ≡ false) →
      filter q (references_at es fs) ≡ []
  filter-none (e ∷ es) (f ∷ fs) same none =
      rw (filter-references e es f fs, none 0 (omega arith)) (filter-none es fs (omega (arith, same)) (λ k h. none (suc k) (omega arith)))
  filter-none [] fs same none = refl
  filter-none es [] same none = refl

  -- the one that passes at p, where none after it does
  pub last-found : (es : List ℕ) (fs : List MarkedFrame) (p : ℕ) → StandAt es fs → p < length fs → is_marked q (slice_index_or fs p no_frame) ≡ true →
      ((k : ℕ) → p < k → k < length fs → is_marked q (slice_index_or fs k no_frame) ≡ false) →
      slice_get (sorted_by falling (filter q (references_at es fs))) 0 ≡ Some (reference_at es fs p)
  last-found (e ∷ es) (f ∷ fs) zero stand within here after =
      rw (filter-references e es f fs, here, filter-none es fs (omega (arith, stand.each)) (λ k h. after (suc k) (omega arith) (omega arith))) refl
  last-found (e ∷ es) (f ∷ fs) (suc p) stand within here after =
      let found = last-found es fs p (stand_rest e es f fs stand) (omega arith) here (λ k h h'. after (suc k) (omega arith) (omega arith)) in
      let below : e < slice_index es p = below_rest e es p stand.rising (omega (arith, stand.each, within)) in
      let earlier : nat_lt e (slice_index es p) ≡ true = grind (arith, nat_tests) in
      rw (filter-references e es f fs) (search (rules, first-placed))
  last-found es fs p stand within here after = absurd (omega (arith, stand.each))

  -- the one that passes at p, where none before it does
  pub first-found : (es : List ℕ) (fs : List MarkedFrame) (p : ℕ) → length es ≡ length fs → p < length fs → is_marked q (slice_index_or fs p no_frame) ≡ true →
      ((k : ℕ) → k < p → is_marked q (slice_index_or fs k no_frame) ≡ false) →
      slice_get (filter q (references_at es fs)) 0 ≡ Some (reference_at es fs p)
  first-found (e ∷ es) (f ∷ fs) zero same within here before = rw (filter-references e es f fs, here) refl
  first-found (e ∷ es) (f ∷ fs) (suc p) same within here before =
      rw (filter-references e es f fs, before 0 (omega arith)) (first-found es fs p (omega (arith, same)) (omega arith) here (λ k h. before (suc k) (omega arith)))
  first-found es fs p same within here before = absurd (omega arith)

-- `find` is the first of those that pass
pub find-filter : {A : Type 0} (q : A → Bool) (xs : List A) → find q xs ≡ slice_get (filter q xs) 0
find-filter q [] = refl
find-filter q (x ∷ xs) = search (rules, find-filter q xs)

-- ---- which places are seen

none-seen : (x : ℕ) (es : List ℕ) (fs : List MarkedFrame) → ((k : ℕ) → k < length es → x < slice_index es k) → list_any (λ r. r.decoding_index == x) (references_at es fs) ≡ false
none-seen x (e ∷ es) (f ∷ fs) above =
    let h : x < e = above 0 (omega arith) in
    let other : (e == x) ≡ false = grind (arith, nat_tests) in
    let more = none-seen x es fs (λ k h'. above (suc k) (omega arith)) in
    search rules
none-seen x [] fs above = refl
none-seen x es [] above = refl

pub seen-at : (es : List ℕ) (fs : List MarkedFrame) (p : ℕ) → StandAt es fs → p < length fs →
    list_any (λ r. r.decoding_index == slice_index es p) (references_at es fs) ≡ is_some (slice_index_or fs p no_frame).mark
seen-at (e ∷ es) (f ∷ fs) zero stand within =
    let same : (e == e) ≡ true = grind (arith, nat_tests) in
    let more = none-seen e es fs (λ k h. below_rest e es k stand.rising h) in
    search rules
seen-at (e ∷ es) (f ∷ fs) (suc p) stand within =
    let below : e < slice_index es p = below_rest e es p stand.rising (omega (arith, stand.each, within)) in
    let other : (e == slice_index es p) ≡ false = grind (arith, nat_tests) in
    let more = seen-at es fs p (stand_rest e es f fs stand) (omega arith) in
    search rules
seen-at es fs p stand within = absurd (omega (arith, stand.each))
