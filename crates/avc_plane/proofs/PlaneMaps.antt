-- The padded rows of a plane, its samples as a map, and rectangles that are written and lent.
pub mod Common
unfoldable pub use Common.*

-- ---- laws of planes as maps: what is changed in them changes at its own places alone

-- a plane that is made of a map has its samples
pub sample-plane_of : (width height : ℕ) (f : ℕ → ℕ → ℕ) (x y : ℕ) → x < width → y < height → sample (plane_of width height f) x y ≡ f x y
sample-plane_of width height f x y column row =
    get_or-map-range_with_len (λ i. f (i % width) (i / width)) 0 (width * height) (y * width + x) (y * width + x) 0 (mul-add-lt y width x height row column) (zero-add (y * width + x))
    ∙ rw (mod-mul-add y width x column, div-mul-add y width x column)

-- and as many as it has places
pub length-plane_of : (width height : ℕ) (f : ℕ → ℕ → ℕ) → length (plane_of width height f).samples ≡ width * height
length-plane_of width height f = length-map-range_with_len (λ i. f (i % width) (i / width)) 0 (width * height)

-- a changed block changes its own samples alone
pub sample-with_block : (p : Plane) (left top width height : ℕ) (f : ℕ → ℕ → ℕ) (x y : ℕ) → x < p.width → y < p.height
    → sample (with_block p left top width height f) x y ≡ (if is_inside left top width height x y then f (x - left) (y - top) else sample p x y)
sample-with_block p left top width height f x y column row =
    sample-plane_of p.width p.height (λ x y. if is_inside left top width height x y then f (x - left) (y - top) else sample p x y) x y column row

-- a plane is that of its samples
plane_is : (p : Plane) (f : ℕ → ℕ → ℕ) → length p.samples ≡ p.width * p.height → ((x y : ℕ) → x < p.width → y < p.height → sample p x y ≡ f x y)
    → p ≡ plane_of p.width p.height f
plane_is p f long same =
    ap (λ (s : List ℕ). record { width = p.width; height = p.height; samples = s })
    (fill_by_all (λ i. f (i % p.width) (i / p.width)) p.samples (p.width * p.height) 0 long
    (λ k below. ap (λ i. get_or p.samples i 0) (omega (arith, mul_comm p.width (k / p.width), some_column p.width p.height k below))
    ∙ same (k % p.width) (k / p.width) (column p.width p.height k below) (row p.width p.height k below)))

pub plane_of_same : (width height : ℕ) (f g : ℕ → ℕ → ℕ) → ((x y : ℕ) → x < width → y < height → f x y ≡ g x y) → plane_of width height f ≡ plane_of width height g
plane_of_same width height f g same =
    plane_is (plane_of width height f) g (length-plane_of width height f)
    (λ x y column row. sample-plane_of width height f x y column row ∙ same x y column row)

-- ---- the distance of rows

-- it is room for a row with its padding
pub stride_wide : (pad width : ℕ) → width + 2 * pad ≤ stride_of pad width
unfolding stride_of
stride_wide pad width = grind (arith, nat_tests)

-- ---- the padded rows of a plane, and the map of its samples

module _ (pad stride width height : ℕ) (stored : List ℕ) (wide : width + 2 * pad ≤ stride) (long : length stored ≡ (height + 2 * pad) * stride) where
  abbrev at : ℕ → ℕ → ℕ
  at x y = get_or stored (place_in pad stride x y) 0

  abbrev samples : List ℕ
  samples = (plane_of width height at).samples

  pub fits : (x y : ℕ) → x < width → y < height → place_in pad stride x y < length stored
  fits x y column row =
      omega (arith, long, mul-add-lt (y + pad) stride (x + pad) (height + 2 * pad) (omega arith) (omega arith), mul_comm stride (height + 2 * pad))

  -- what is stored there is the sample
  pub stored_sample : (x y : ℕ) → x < width → y < height → at x y ≡ sample (inner_plane pad stride width height stored) x y
  stored_sample x y column row = sym (sample-plane_of width height at x y column row)

  -- the plane that a contract sees of them
  module _ (p : Plane) (is : inner_plane pad stride width height stored ≡ p) where
    pub sizes : (width ≡ p.width) × (height ≡ p.height)
    sizes = (ap (λ p. p.width) is, ap (λ p. p.height) is)

    pub all_samples : length p.samples ≡ p.width * p.height
    all_samples = rw (← is) (length-plane_of width height at)

    pub seen_sample : (x y d : ℕ) → x < p.width → y < p.height → get_or stored (place_in pad stride x y) d ≡ sample p x y
    seen_sample x y d column row =
        get_or_default_zero stored (place_in pad stride x y) d (fits x y (omega (arith, sizes)) (omega (arith, sizes)))
        ∙ stored_sample x y (omega (arith, sizes)) (omega (arith, sizes)) ∙ ap (λ p. sample p x y) is

    -- what is stored from a sample's place on are the samples from it on
    pub seen_from : (xs : List ℕ) (x y start : ℕ) → xs ≡ stored → start ≡ (y + pad) * stride + (x + pad)
        → HaveRowsFrom p x y (take (length xs - start) (drop start xs)) stride
    seen_from xs x y start same begins =
        let rest : take (length xs - start) (drop start xs) ≡ drop start stored =
        rw same (take_all (length stored - start) (drop start stored) (omega (arith, length-drop start stored))) in
        let place : (i j : ℕ) → start + (j * stride + i) ≡ place_in pad stride (x + i) (y + j) =
        λ i j. let same_row : y + pad + j ≡ y + j + pad = omega arith in
        omega (arith, begins, add-mul (y + pad) j stride, ap (λ n. n * stride) same_row) in
        record {
          apart = omega (arith, sizes);
          inside = λ i j column row. rw rest (omega (arith, length-drop start stored, place i j, fits (x + i) (y + j) (omega (arith, sizes)) (omega (arith, sizes))));
          at = λ i j column row.
              ap (λ l. get_or l (j * stride + i) 0) rest ∙ get_or-drop start stored (j * stride + i) 0
              ∙ ap (λ k. get_or stored k 0) (place i j) ∙ seen_sample (x + i) (y + j) 0 column row;
        }

    -- a row is a range of what is stored
    pub seen_row : (xs : List ℕ) (y start : ℕ) → xs ≡ stored → y < p.height → start ≡ (y + pad) * stride + pad
        → take (start + width - start) (drop start xs) ≡ slice_range p.samples (y * p.width) (y * p.width + p.width)
    seen_row xs y start same row begins =
        let many : start + width - start ≡ width = omega arith in
        let here : y < height = omega (arith, sizes) in
        let enough : start + width ≤ length stored =
        omega (arith, long, row_fits (y + pad) stride (height + 2 * pad) stride (omega arith) (omega arith), begins) in
        let whole : y * width + width ≤ length samples =
        omega (arith, length-plane_of width height at, row_fits y width height width here (omega arith), mul_comm width height) in
        let each : (k : ℕ) → k < width → get_or (take width (drop start stored)) k 0 ≡ get_or (slice_range samples (y * width) (y * width + width)) k 0 =
        λ k column.
        get_or-take width (drop start stored) k 0 column
        ∙ get_or-drop start stored k 0
        ∙ ap (λ i. get_or stored i 0) (omega arith)
        ∙ stored_sample k y column here
        ∙ sym (get_or-take (y * width + width - y * width) (drop (y * width) samples) k 0 (omega arith) ∙ get_or-drop (y * width) samples k 0) in
        rw (← is, many, same) (same_number_lists _ _ (grind (arith, common_steps, enough, whole)) (λ k h. each k (grind (arith, common_steps))))

    -- one stored sample changed is one sample of the plane changed
    pub seen_set : (x y value : ℕ) → x < p.width → y < p.height
        → inner_plane pad stride width height (set stored (place_in pad stride x y) value) ≡ with_sample p x y value
    seen_set x y value column row =
        let place = place_in pad stride in
        let left : x < width = omega (arith, sizes) in
        let low : y < height = omega (arith, sizes) in
        let each : (u v : ℕ) → u < width → v < height
        → get_or (set samples (y * width + x) value) (v * width + u) 0 ≡ get_or (set stored (place x y) value) (place u v) 0 =
        λ u v across down. ⊎_elim
        (λ here.
        let same = same_from_place v u y x width across left here in
        rw (same.0, same.1)
        (get_or-set_same samples (y * width + x) value 0 (omega (arith, mul-add-lt y width x height low left, length-plane_of width height at))
        ∙ sym (get_or-set_same stored (place x y) value 0 (fits x y left low))))
        (λ apart. get_or-set_other samples (y * width + x) (v * width + u) value 0 apart
        ∙ sample-plane_of width height at u v across down
        ∙ sym (get_or-set_other stored (place x y) (place u v) value 0 (λ e.
        let same = same_from_place (v + pad) (u + pad) (y + pad) (x + pad) stride (omega arith) (omega arith) e in
        let down_is : v ≡ y = omega (arith, same.0) in
        let across_is : u ≡ x = omega (arith, same.1) in
        apart (rw (down_is, across_is)))))
        (cases_eq (v * width + u) (y * width + x)) in
        rw (← is) (sym (plane_is (with_sample (inner_plane pad stride width height stored) x y value) (λ u v. get_or (set stored (place x y) value) (place u v) 0)
        (length-set samples (y * width + x) value ∙ length-plane_of width height at) each))

-- ---- places inside a rectangle and outside it

pub inside : (left top width height x y : ℕ) → left ≤ x → x < left + width → top ≤ y → y < top + height → is_inside left top width height x y ≡ true
inside left top width height x y a b c d = grind (arith, nat_tests)

-- a place is in a rectangle, or it isn't
pub by_place : (P : Bool → Type 0) (left top width height a b : ℕ) → (left ≤ a → a < left + width → top ≤ b → b < top + height → P true)
    → ((left ≤ a → a < left + width → top ≤ b → b < top + height → ⊥) → P false) → P (is_inside left top width height a b)
by_place P left top width height a b in_it out = elim (cases_Bool (is_inside left top width height a b)) [
  | inl in_there ↦ subst P (sym in_there) (in_it (grind (arith, nat_tests)) (grind (arith, nat_tests)) (grind (arith, nat_tests)) (grind (arith, nat_tests)))
  | inr apart ↦ subst P (sym apart) (out (λ p q r s. both_ways (is_inside left top width height a b) apart (inside left top width height a b p q r s)))
]

pub small : (w h n : ℕ) → w < 2 ^ 31 → h < 2 ^ 31 → w * h ≡ n → n * 1 < 9223372036854775808
small w h n narrow low e = let wide : w * h ≤ 2147483648 * h = mul-le-mul_right h (omega arith) in omega (arith, e, wide)

-- what is in none of so many places is before or behind them
beside : (P : ℕ → Type 0) (start width j : ℕ) → ((x : ℕ) → x < width → j ≢ start + x) → (j < start → P j) → (start + width ≤ j → P j) → P j
beside P start width j none before behind =
    ⊎_elim before (λ above. ⊎_elim (λ within. absurd (none (j - start) (omega arith) (omega arith))) behind (cases_lt j (start + width))) (cases_lt j start)

-- ---- rectangles of a plane, in its padded rows

module _ (pad stride width height left top w h : ℕ) (stored : List ℕ) (wide : width + 2 * pad ≤ stride) (long : length stored ≡ (height + 2 * pad) * stride) (columns : left + w ≤ width) (rows : top + h ≤ height) where
  abbrev first_place : ℕ
  first_place = (top + pad) * stride + (left + pad)

  pub room : IsRoom w h first_place stride (length stored)
  room y low =
      let below : (top + pad + y + 1) * stride ≤ (height + 2 * pad) * stride = mul-le-mul_right stride (omega arith) in
      omega (arith, long, below)

  pub rectangle_place : (x y : ℕ) → first_place + y * stride + x ≡ place_in pad stride (left + x) (top + y)
  rectangle_place x y = omega arith

  -- the places of a rectangle that was set have its samples, and the others what stood there
  pub rectangle_at : (f s : ℕ → ℕ → ℕ) (new : List ℕ) →
      ((y : ℕ) → y < h → (x : ℕ) → x < w → slice_index new (first_place + y * stride + x) ≡ f x y) → IsSameOutside w h first_place stride stored new →
      ((x y : ℕ) → x < width → y < height → slice_index stored (place_in pad stride x y) ≡ s x y) →
      (x y : ℕ) → x < width → y < height → slice_index new (place_in pad stride x y) ≡ (if is_inside left top w h x y then f (x - left) (y - top) else s x y)
  rectangle_at f s new within outside before x y column row = by_place
      (λ t. slice_index new (place_in pad stride x y) ≡ (if t then f (x - left) (y - top) else s x y)) left top w h x y
      (λ a b c d.
      let across : x ≡ left + (x - left) = omega arith in
      let down : y ≡ top + (y - top) = omega arith in
      ap (λ u. slice_index new (place_in pad stride u y)) across ∙ ap (λ v. slice_index new (place_in pad stride (left + (x - left)) v)) down
      ∙ ap (slice_index new) (sym (rectangle_place (x - left) (y - top))) ∙ within (y - top) (omega arith) (x - left) (omega arith))
      (λ none.
      outside (place_in pad stride x y)
      (λ u v u_low v_low e.
      let same = same_from_place (y + pad) (x + pad) (top + v + pad) (left + u + pad) stride (omega arith) (omega arith) (e ∙ rectangle_place u v) in
      let row_is : y + pad ≡ top + v + pad = same.0 in
      let column_is : x + pad ≡ left + u + pad = same.1 in
      none (omega arith) (omega arith) (omega arith) (omega arith))
      ∙ before x y column row)

  pub stored_rectangle : (new samples : List ℕ) →
      ((y : ℕ) → y < h → (x : ℕ) → x < w → slice_index new (first_place + y * stride + x) ≡ slice_index samples (w * y + x)) → IsSameOutside w h first_place stride stored new →
      inner_plane pad stride width height new ≡ with_block (inner_plane pad stride width height stored) left top w h (λ x y. slice_index samples (w * y + x))
  stored_rectangle new samples within outside =
      plane_of_same width height (λ x y. slice_index new (place_in pad stride x y)) _
      (rectangle_at (λ x y. slice_index samples (w * y + x)) (sample (inner_plane pad stride width height stored)) new within outside (stored_sample pad stride width height stored wide long))

-- ---- a part of a list changed

module _ (xs ys : List ℕ) (a : ℕ) (within : a + length ys ≤ length xs) where
  abbrev pub spliced : List ℕ
  spliced = take a xs ++ (ys ++ drop (a + length ys) xs)

  pub length-spliced : length spliced ≡ length xs
  length-spliced = grind (arith, common_steps)

  spliced_before : (p : ℕ) → p < a → get_or spliced p 0 ≡ get_or xs p 0
  spliced_before p below = grind (arith, places)

  spliced_inside : (p k : ℕ) → p ≡ a + k → k < length ys → get_or spliced p 0 ≡ get_or ys k 0
  spliced_inside p k is below = grind (arith, places)

  spliced_after : (p : ℕ) → a + length ys ≤ p → get_or spliced p 0 ≡ get_or xs p 0
  spliced_after p above = grind (arith, places)

-- ---- one line of stored samples

module _ (pad stride width height left y : ℕ) (stored line : List ℕ) (wide : width + 2 * pad ≤ stride) (long : length stored ≡ (height + 2 * pad) * stride) (columns : left + length line ≤ width) (row : y < height) where
  abbrev start : ℕ
  start = place_in pad stride left y

  pub within : start + length line ≤ length stored
  within = omega (arith, long, row_fits (y + pad) stride (height + 2 * pad) stride (omega arith) (omega arith))

  pub stored_line : inner_plane pad stride width height (spliced stored line start within)
      ≡ with_block (inner_plane pad stride width height stored) left y (length line) 1 (λ x _. get_or line x 0)
  stored_line =
      let new = spliced stored line start within in
      plane_of_same width height (λ u v. get_or new (place_in pad stride u v) 0) _
      (rectangle_at pad stride width height left y (length line) 1 stored wide long columns (omega arith) (λ x _. get_or line x 0)
      (sample (inner_plane pad stride width height stored)) new
      (λ r low x column. spliced_inside stored line start within (start + r * stride + x) x
      (below_more (λ r. start + r * stride + x ≡ start + x) 0 (λ k h. absurd (omega arith)) (omega arith) r low) column)
      (λ j none. beside (λ j. get_or new j 0 ≡ get_or stored j 0) start (length line) j (λ x column e. none x 0 column (omega arith) (omega arith))
      (spliced_before stored line start within j) (spliced_after stored line start within j))
      (stored_sample pad stride width height stored wide long))

-- ---- a block, line by line

-- no line
pub no_line : (p : Plane) (left top width : ℕ) (f : ℕ → ℕ → ℕ) → length p.samples ≡ p.width * p.height → p ≡ with_block p left top width 0 f
no_line p left top width f long =
    plane_is p (λ x y. if is_inside left top width 0 x y then f (x - left) (y - top) else sample p x y) long (λ x y _ _. grind (arith, nat_tests))

-- outside its last line a rectangle is as without that line
one_line_more : (left top width count x y : ℕ) → is_inside left (top + count) width 1 x y ≡ false → is_inside left top width count x y ≡ is_inside left top width (count + 1) x y
one_line_more left top width count x y out = grind (arith, nat_tests)

module _ (p : Plane) (left top width count : ℕ) (line samples : List ℕ) (len : length line ≡ width) (same : (x : ℕ) → x < width → get_or line x 0 ≡ get_or samples (width * count + x) 0) where
  abbrev f : ℕ → ℕ → ℕ
  f x y = get_or samples (width * y + x) 0

  abbrev so_far : Plane
  so_far = with_block p left top width count f

  -- one line more
  pub line_more : with_block so_far left (top + count) (length line) 1 (λ x _. get_or line x 0) ≡ with_block p left top width (count + 1) f
  line_more =
      plane_of_same p.width p.height
      (λ x y. if is_inside left (top + count) (length line) 1 x y then get_or line (x - left) 0 else sample so_far x y)
      (λ x y. if is_inside left top width (count + 1) x y then f (x - left) (y - top) else sample p x y)
      (λ x y column row. elim (cases_Bool (is_inside left (top + count) (length line) 1 x y)) [
        | inl in_there ↦
            let here : y ≡ top + count = grind (arith, nat_tests) in
            rw (in_there, inside left top width (count + 1) x y (grind (arith, nat_tests)) (grind (arith, nat_tests)) (omega arith) (omega arith))
            (same (x - left) (grind (arith, nat_tests)) ∙ ap (λ n. get_or samples (width * n + (x - left)) 0) (omega arith))
        | inr apart ↦
            rw apart (sample-with_block p left top width count f x y column row
            ∙ ap (λ b. if b then f (x - left) (y - top) else sample p x y) (one_line_more left top width count x y (rw (← len) apart)))
      ])

-- ---- planes whose padded rows were lent

-- the elements of a list that was filled up from another
refilled : (n k : ℕ) (xs ws : List ℕ) → n ≡ length xs → k < n → get_or (take n (ws ++ drop (length ws) xs)) k 0 ≡ get_or ws k (get_or xs k 0)
refilled n k xs ws long below = grind (arith, places, cases_lt k (length ws))

-- a plane that is stored in a list filled up from its own rows
pub rows_written : (pad stride width height n : ℕ) (stored ws : List ℕ) → n ≡ length stored → stride ≡ stride_of pad width → (wide : width + 2 * pad ≤ stride) →
    (long : length stored ≡ (height + 2 * pad) * stride) →
    inner_plane pad stride width height (take n (ws ++ drop (length ws) stored)) ≡ with_rows pad (inner_plane pad stride width height stored) ws
rows_written pad stride width height n stored ws all distance wide long =
    plane_of_same width height
    (λ x y. slice_index (take n (ws ++ drop (length ws) stored)) (place_in pad stride x y))
    (λ x y. slice_index_or ws (place_in pad stride x y) (sample (inner_plane pad stride width height stored) x y))
    (λ x y column row.
    refilled n (place_in pad stride x y) stored ws all (omega (arith, all, fits pad stride width height stored wide long x y column row))
    ∙ ap (slice_index_or ws (place_in pad stride x y)) (stored_sample pad stride width height stored wide long x y column row))
    ∙ ap (λ (s : ℕ). plane_of width height (λ x y. slice_index_or ws (place_in pad s x y) (sample (inner_plane pad stride width height stored) x y))) distance

-- its own rows have its samples
pub have_samples : (pad stride width height : ℕ) (stored : List ℕ) → stride ≡ stride_of pad width → (wide : width + 2 * pad ≤ stride) →
    (long : length stored ≡ (height + 2 * pad) * stride) → HaveSamples pad (inner_plane pad stride width height stored) stored
have_samples pad stride width height stored distance wide long = record {
  long = long ∙ ap (λ (s : ℕ). (height + 2 * pad) * s) distance;
  at = λ x y column row.
      ap (λ (s : ℕ). slice_index stored (place_in pad s x y)) (sym distance) ∙ stored_sample pad stride width height stored wide long x y column row;
}

-- a rectangle of lent rows, whose first sample is at this place
module _ (pad : ℕ) (p : Plane) (left top w h first stride : ℕ) (rows : List ℕ) (have : HaveSamples pad p rows) (columns : left + w ≤ p.width) (lines : top + h ≤ p.height)
    (is_first : first ≡ stored_place pad p.width left top) (is_stride : stride ≡ stride_of pad p.width) where
  pub room_lent : IsRoom w h first stride (length rows)
  room_lent = rw (is_first, is_stride) (room pad (stride_of pad p.width) p.width p.height left top w h rows (stride_wide pad p.width) have.long columns lines)

  pub block_lent : (f : ℕ → ℕ → ℕ) (new : List ℕ) → IsStridedSet w h first stride f rows new → with_rows pad p new ≡ with_block p left top w h f
  block_lent f new set =
      let placed = rw (is_first, is_stride) at set in
      plane_of_same p.width p.height (λ x y. slice_index_or new (stored_place pad p.width x y) (sample p x y)) _
      (λ x y column row.
      get_or_default_zero new (stored_place pad p.width x y) (sample p x y) (omega (arith, set.long, fits pad (stride_of pad p.width) p.width p.height rows (stride_wide pad p.width) have.long x y column row))
      ∙ rectangle_at pad (stride_of pad p.width) p.width p.height left top w h rows (stride_wide pad p.width) have.long columns lines f (sample p) new placed.inside placed.outside have.at x y column row)

-- ---- the nearest coordinate inside a size

held_is : (pad size x : ℕ) → 0 < size → nat_abs (clip3 (pos 0) (pos size -ℤ pos 1) (pos x -ℤ pos pad)) ≡ nearest pad size x
held_is pad size x some = search (arith, ints, nat_tests)

-- ---- rectangles in memory that are set some rows at a time

-- the same samples under other words
pub strided_same : (w h start stride : ℕ) (f g : ℕ → ℕ → ℕ) (old new : List ℕ) → IsStridedSet w h start stride f old new →
    ((x y : ℕ) → x < w → y < h → f x y ≡ g x y) → IsStridedSet w h start stride g old new
strided_same w h start stride f g old new set same = record {
  long = set.long;
  inside = λ y low x column. set.inside y low x column ∙ same x y column low;
  outside = set.outside;
}

pub times_turned : (y n s : ℕ) → y * (n * s) ≡ n * y * s
times_turned y n s = search arith

one_more : (n y : ℕ) → n * (y + 1) ≡ n * y + n
one_more n y = omega (arith, mul_comm n (y + 1), mul_comm n y)

-- n rows more, below the y times n that were set
module _ (w n y start stride : ℕ) (f g : ℕ → ℕ → ℕ) (old mid new : List ℕ) (apart : w ≤ stride)
    (so_far : IsStridedSet w (n * y) start stride f old mid) (put : IsStridedSet w n (start + y * (n * stride)) stride g mid new)
    (same : (r x : ℕ) → r < n → x < w → g x r ≡ f x (n * y + r)) where
  strided_place : (r x : ℕ) → start + y * (n * stride) + r * stride + x ≡ start + (n * y + r) * stride + x
  strided_place r x = omega (arith, times_turned y n stride, add-mul (n * y) r stride)

  other : (v r x u : ℕ) → v < n * y → x < w → start + v * stride + x ≡ start + (n * y + r) * stride + u → ⊥
  other v r x u above column e =
      let more : (v + 1) * stride ≤ (n * y + r) * stride = mul-le-mul_right stride (omega arith) in
      omega (arith, more, e, apart, column)

  inside_strided : (v : ℕ) → v < n * (y + 1) → (x : ℕ) → x < w → slice_index new (start + v * stride + x) ≡ f x v
  inside_strided v low x column = elim (cases_lt v (n * y)) [
    | inl above ↦
        put.outside (start + v * stride + x) (λ u r u_low r_low e. other v r x u above column (e ∙ strided_place r u))
        ∙ so_far.inside v above x column
    | inr from ↦
        let here : v ≡ n * y + (v - n * y) = omega arith in
        rw here (ap (slice_index new) (sym (strided_place (v - n * y) x)) ∙ put.inside (v - n * y) (omega (arith, low, one_more n y)) x column
        ∙ same (v - n * y) x (omega (arith, low, one_more n y)) column)
  ]

  pub strided_more : IsStridedSet w (n * (y + 1)) start stride f old new
  strided_more = record {
    long = put.long ∙ so_far.long;
    inside = inside_strided;
    outside = λ j none.
        put.outside j (λ x r column low e. none x (n * y + r) column (omega (arith, low, one_more n y)) (e ∙ strided_place r x))
        ∙ so_far.outside j (λ x v column low e. none x v column (omega (arith, low, one_more n y)) e);
  }

-- one row more
module _ (w y start stride : ℕ) (f : ℕ → ℕ → ℕ) (old mid new : List ℕ) (apart : w ≤ stride) (so_far : IsStridedSet w y start stride f old mid)
    (long : length new ≡ length mid)
    (here : (x : ℕ) → x < w → slice_index new (start + y * stride + x) ≡ f x y)
    (before : (j : ℕ) → j < start + y * stride → slice_index new j ≡ slice_index mid j)
    (behind : (j : ℕ) → start + y * stride + w ≤ j → slice_index new j ≡ slice_index mid j) where
  earlier : (v x : ℕ) → v < y → x < w → start + v * stride + x < start + y * stride
  earlier v x low column = let more : (v + 1) * stride ≤ y * stride = mul-le-mul_right stride (omega arith) in omega (arith, more)

  pub strided_line : IsStridedSet w (y + 1) start stride f old new
  strided_line = record {
    long = long ∙ so_far.long;
    inside = below_more _ _ (λ v h x column. before (start + v * stride + x) (earlier v x h column) ∙ so_far.inside v h x column) (λ x column. here x column);
    outside = λ j none.
        beside (λ j. slice_index new j ≡ slice_index mid j) (start + y * stride) w j (λ x column. none x y column (omega arith)) (before j) (behind j)
        ∙ so_far.outside j (λ x v column low. none x v column (omega arith));
  }

-- as many rows by another name
pub strided_rows : (w h h' start stride : ℕ) (f : ℕ → ℕ → ℕ) (old new : List ℕ) → h ≡ h' → IsStridedSet w h start stride f old new → IsStridedSet w h' start stride f old new
strided_rows w h h' start stride f old new same set = subst (λ n. IsStridedSet w n start stride f old new) same set

-- ---- a rectangle of w columns that is read sample by sample

-- a row of it ends within its samples
pub row_room : (w h n y : ℕ) → w * h ≡ n → y < h → w * y + w ≤ n
row_room w h n y all low = let more : w * (y + 1) ≤ w * h = mul-le-mul_left w (omega arith) in omega (arith, more, all, one_more w y)

-- one sample more of row y, after x of it
module _ (w y x : ℕ) (f : ℕ → ℕ → ℕ) (samples : List ℕ) (value : ℕ) (column : x < w) (room : w * y + w ≤ length samples) where
  pub rows_stay : ((u v : ℕ) → u < w → v < y → slice_index samples (w * v + u) ≡ f u v)
      → (u v : ℕ) → u < w → v < y → slice_index (set samples (w * y + x) value) (w * v + u) ≡ f u v
  rows_stay done u v across above =
      let earlier : w * (v + 1) ≤ w * y = mul-le-mul_left w (omega arith) in
      get_or-set_other samples (w * y + x) (w * v + u) value 0 (omega (arith, earlier, one_more w v)) ∙ done u v across above

  pub row_grows : ((u : ℕ) → u < x → slice_index samples (w * y + u) ≡ f u y) → value ≡ f x y
      → (u : ℕ) → u < x + 1 → slice_index (set samples (w * y + x) value) (w * y + u) ≡ f u y
  row_grows here is =
      below_more (λ u. slice_index (set samples (w * y + x) value) (w * y + u) ≡ f u y) x
      (λ u below. get_or-set_other samples (w * y + x) (w * y + u) value 0 (omega arith) ∙ here u below)
      (get_or-set_same samples (w * y + x) value 0 (omega arith) ∙ is)

-- ---- rows in which each place is the nearest sample are a padded plane, and the same plane

module _ (pad stride width height : ℕ) (old new : List ℕ) (wide : width + 2 * pad ≤ stride) (some_column : 0 < width) (some_row : 0 < height)
    (all : (x y : ℕ) → x < stride → y < height + 2 * pad →
    slice_index new (y * stride + x) ≡ slice_index old ((nearest pad height y + pad) * stride + (nearest pad width x + pad))) where
  itself : (x y : ℕ) → x < width → y < height → slice_index new (place_in pad stride x y) ≡ slice_index old (place_in pad stride x y)
  itself x y column row =
      let across : nearest pad width (x + pad) ≡ x = omega arith in
      let down : nearest pad height (y + pad) ≡ y = omega arith in
      all (x + pad) (y + pad) (omega arith) (omega arith) ∙ rw (across, down)

  pub same_plane : inner_plane pad stride width height new ≡ inner_plane pad stride width height old
  same_plane = plane_of_same width height (λ x y. slice_index new (place_in pad stride x y)) (λ x y. slice_index old (place_in pad stride x y)) itself

  near : (x y : ℕ) → x < stride → y < height + 2 * pad →
      slice_index new (y * stride + x) ≡ clamped width height (sample (inner_plane pad stride width height new)) (pos x -ℤ pos pad) (pos y -ℤ pos pad)
  near x y column row =
      rw (held_is pad width x some_column, held_is pad height y some_row)
      (all x y column row
      ∙ sym (sample-plane_of width height (λ x y. slice_index old (place_in pad stride x y)) (nearest pad width x) (nearest pad height y)
      (omega arith) (omega arith))
      ∙ ap (λ (p : Plane). sample p (nearest pad width x) (nearest pad height y)) (sym same_plane))

  pub surrounded : stride ≡ stride_of pad width → length new ≡ (height + 2 * pad) * stride → IsSurrounded pad (inner_plane pad stride width height new) new
  surrounded distance long = record {
    long = long ∙ ap (λ (s : ℕ). (height + 2 * pad) * s) distance;
    near = λ x y column row. ap (λ (s : ℕ). slice_index new (y * s + x)) (sym distance) ∙ near x y (omega (arith, distance, column)) row;
  }
