-- Blocks in rows of sixteen samples, and the predictions that they show.
pub mod Shifts
unfoldable pub use Shifts.*

-- ---- blocks in rows of sixteen samples, as they lie in a list: places

module _ (columns : ℕ) (lanes : AreLanes columns) where
  some_lines : 0 < 16 / columns
  some_lines = (le-div_iff_mul-le lanes.some).1 (omega (arith, lanes.most))

  pub line_ends : (y : ℕ) → y < 16 / columns → columns * y + columns ≤ 16
  line_ends y low =
      let within : (y + 1) * columns ≤ 16 / columns * columns = mul-le-mul_right columns (omega arith) in
      omega (arith, lanes.all, within, mul_comm columns y)

  -- n times sixteen samples
  pub lanes_of : (n : ℕ) → 16 / columns * n * columns ≡ 16 * n
  lanes_of n = mul_right_comm (16 / columns) n columns ∙ ap (λ s. s * n) lanes.all

  pub rows_cover : (n h : ℕ) → h * columns ≤ 16 * n → h ≤ 16 / columns * n
  rows_cover n h few = le_of_mul-le-mul_right (omega (arith, lanes_of n, few)) lanes.some

  row_of : (n k : ℕ) → k < 16 * n → k / columns < 16 / columns * n
  row_of n k low = (div-lt_iff_lt-mul lanes.some).1 (omega (arith, lanes_of n))

  -- a row and its end
  row_below : (n y : ℕ) → y < 16 / columns * n → (y + 1) * columns ≤ 16 * n
  row_below n y low =
      let below : (y + 1) * columns ≤ 16 / columns * n * columns = mul-le-mul_right columns (omega arith) in
      omega (arith, below, lanes_of n)

  pub rows_room : (n long : ℕ) → 16 * n ≤ long → IsRoom columns (16 / columns * n) 0 columns long
  rows_room n long few y low = omega (arith, row_below n y low)

  -- the rows and five more
  pub rows_suffice : (n : ℕ) → 16 / columns * n + 5 ≤ 16 / columns * (n + (5 * columns + 15) / 16)
  rows_suffice n = rows_cover (n + (5 * columns + 15) / 16) _ (omega (arith, lanes_of n, add-mul (16 / columns * n) 5 columns))

  pub flat : (y r x : ℕ) → 16 * y + (columns * r + x) ≡ columns * (16 / columns * y + r) + x
  flat y r x = omega (arith, lanes_of y, mul_comm columns (16 / columns * y + r), mul_comm columns r, add-mul (16 / columns * y) r columns)

module _ (columns stride : ℕ) (lanes : AreLanes columns) where
  abbrev lines : ℕ
  lines = 16 / columns * stride

  pub place_at : (y x : ℕ) → x < columns → place_of columns stride (columns * y + x) ≡ y * stride + x
  place_at y x low = rw (mul_comm columns y, div-mul-add y columns x low, mod-mul-add y columns x low)

  pub place_further : (n k : ℕ) → place_of columns stride (n * columns + k) ≡ n * stride + place_of columns stride k
  place_further n k = rw (mul-add-div_right lanes.some n k, mul-add-mod_self_right n columns k) (omega (arith, add-mul n (k / columns) stride))

  pub place_row : (y k : ℕ) → place_of columns stride (16 * y + k) ≡ y * lines + place_of columns stride k
  place_row y k =
      let e : 16 * y + k ≡ 16 / columns * y * columns + k = omega (arith, lanes_of columns lanes y) in
      rw e (omega (arith, place_further (16 / columns * y) k, times_turned y (16 / columns) stride))

  -- where a sample of row y of sixteen is
  pub place_in : (at by y r x : ℕ) → x < columns → at + by + y * lines + place_of columns stride (columns * r + x) ≡ by + (at + ((16 / columns * y + r) * stride + x))
  place_in at by y r x low = omega (arith, place_at r x low, times_turned y (16 / columns) stride, add-mul (16 / columns * y) r stride)

  pub row_there : (n at y k : ℕ) (p : List ℕ) → HasPlaces columns stride (16 * n) at p → y < n → k < 16 → at + y * lines + place_of columns stride k < length p
  row_there n at y k p all less low = omega (arith, all (16 * y + k) (omega arith), place_row y k)

  pub row_within : (n at d y k : ℕ) (p : List ℕ) → HasPlaces columns stride (16 * n) (at + d) p → y < n → k < 16 → at + y * lines + d + place_of columns stride k < length p
  row_within n at d y k p all less low = omega (arith, row_there n (at + d) y k p all less low)

  pub row_begins : (n at y : ℕ) (p : List ℕ) → HasPlaces columns stride (16 * n) at p → y < n → at + y * lines < length p
  row_begins n at y p all less = omega (arith, row_there n at y 0 p all less (omega arith))

  pub line_fits : (at y : ℕ) (p : List ℕ) → HasPlaces columns stride 16 at p → y < 16 / columns → at + y * stride + columns ≤ length p
  line_fits at y p all low =
      let some = lanes.some in
      omega (arith, all (columns * y + (columns - 1)) (omega (arith, line_ends columns lanes y low)), place_at y (columns - 1) (omega arith))

  pub place_here : (at y r x : ℕ) → x < columns → at + y * lines + place_of columns stride (columns * r + x) ≡ at + ((16 / columns * y + r) * stride + x)
  place_here at y r x low = omega (arith, place_in at 0 y r x low)

  -- a block's sixteen samples of number y, and five rows more, are there
  pub window_there : (n at y : ℕ) (p : List ℕ) → HasRoom columns stride n at p → y < n → HasPlaces columns stride (16 * ((5 * columns + 15) / 16 + 1)) (at + y * lines + 5) p
  window_there n at y p room less k low = omega (arith, room (16 * y + k) (omega arith), place_row y k)

  pub samples_there : (n at : ℕ) (p : List ℕ) → HasRoom columns stride n at p → HasPlaces columns stride (16 * n) at p
  samples_there n at p room k low = omega (arith, room k (omega arith))

  -- a window that moved on
  pub window_moved : (n at y : ℕ) (p : List ℕ) (old new : List ℤ) → AreSumsOf columns stride (16 * (n + 1)) (at + y * lines) p old →
      ((k : ℕ) → k < 16 * n → slice_index_or new k (pos 0) ≡ slice_index_or old (16 + k) (pos 0)) → AreSumsOf columns stride (16 * n) (at + (y + 1) * lines) p new
  window_moved n at y p old new sums moved = record {
    value = λ k low. moved k low ∙ sums.value (16 + k) (omega arith) ∙ ap (λ i. taps_along p i 1) (omega (arith, place_row 1 k, add-mul y 1 lines));
    small = λ k low. subst (λ (z : ℤ). IsSum z) (sym (moved k low)) (sums.small (16 + k) (omega arith));
  }

  -- where the block begins up to five rows further down and columns further right, all of it is there
  pub room_for : (n at first : ℕ) (p : List ℕ) → HasRoom columns stride n at p → first ≤ at + 5 * stride + 5 → HasPlaces columns stride (16 * n) first p
  room_for n at first p room near k low = omega (arith, room (5 * columns + k) (omega arith), place_further 5 k)

  -- a row and a column more than the block are there
  pub places_for : (n at : ℕ) (p : List ℕ) → ((j : ℕ) → j < 16 / columns * n + 1 → at + j * stride + (columns + 1) ≤ length p) → HasPlaces columns stride (16 * n) (at + stride + 1) p
  places_for n at p there k low =
      omega (arith, there (k / columns + 1) (omega (arith, row_of columns lanes n k low)), add-mul (k / columns) 1 stride, mod_below k columns lanes.some)

  pub room_is : (n at : ℕ) (p : List ℕ) → ((j : ℕ) → j < 16 / columns * (n + (5 * columns + 15) / 16) → at + j * stride + (columns + 5) ≤ length p) → HasRoom columns stride n at p
  room_is n at p there k low = omega (arith, there (k / columns) (row_of columns lanes _ k low), mod_below k columns lanes.some)

-- ---- rows that are written

-- sixteen samples more, which are the next of a block
pub sixteen_more : {columns w first stride : ℕ} {f : ℕ → ℕ → ℕ} {old mid new : List ℕ} (y : ℕ) (row : List ℕ) → AreLanes columns → w ≤ columns → w ≤ stride →
    IsStridedSet w (16 / columns * y) first stride f old mid →
    IsStridedSet w (16 / columns) (first + y * (16 / columns * stride)) stride (λ x r. slice_index row (columns * r + x)) mid new →
    ((r x : ℕ) → columns * r + x < 16 → x < columns → slice_index row (columns * r + x) ≡ f x (16 / columns * y + r)) →
    IsStridedSet w (16 / columns * (y + 1)) first stride f old new
sixteen_more {columns} {w} {first} {stride} {f} {old} {mid} {new} y row lanes narrow apart so_far put is =
    strided_more w (16 / columns) y first stride f (λ x r. slice_index row (columns * r + x)) old mid new apart so_far put
    (λ r x low column. is r x (omega (arith, line_ends columns lanes r low, narrow)) (omega (arith, narrow)))

-- sixteen half samples more, or their means
pub sixteen_between : {columns w first stride : ℕ} {old mid new : List ℕ} (y : ℕ) (row : List ℕ) (from : RowsPlace) (by : ℕ) (whole : Option ℕ) (p : List ℕ) → AreLanes columns → w ≤ columns → w ≤ stride →
    IsStridedSet w (16 / columns * y) first stride (λ x n. half_or_mean whole p (sample_place from x n) (half_along p (by + sample_place from x n) from.stride)) old mid →
    IsStridedSet w (16 / columns) (first + y * (16 / columns * stride)) stride (λ x r. slice_index row (columns * r + x)) mid new →
    ((k : ℕ) → k < 16 → slice_index row k ≡ half_or_mean whole p (from.first + y * (16 / columns * from.stride) + place_of columns from.stride k)
    (half_along p (from.first + y * (16 / columns * from.stride) + by + place_of columns from.stride k) from.stride)) →
    IsStridedSet w (16 / columns * (y + 1)) first stride (λ x n. half_or_mean whole p (sample_place from x n) (half_along p (by + sample_place from x n) from.stride)) old new
sixteen_between {columns} y row from by whole p lanes narrow apart so_far put are =
    sixteen_more y row lanes narrow apart so_far put (λ r x low column.
    let here : from.first + y * (16 / columns * from.stride) + by + place_of columns from.stride (columns * r + x) ≡ by + (from.first + ((16 / columns * y + r) * from.stride + x)) =
    omega (arith, place_in columns from.stride lanes from.first by y r x column) in
    cc (are (columns * r + x) low, place_here columns from.stride lanes from.first y r x column, here))

-- there is room for them
pub row_room : (columns y count r : ℕ) {w h first stride : ℕ} {f : ℕ → ℕ → ℕ} {old mid : List ℕ} → AreLanes columns → y < count →
    IsRoom w (16 / columns * count) first stride (length old) → IsStridedSet w h first stride f old mid → r < 16 / columns →
    first + y * (16 / columns * stride) + r * stride + w ≤ length mid
row_room columns y count r {w} {h} {first} {stride} lanes less room set low =
    let below : 16 / columns * (y + 1) ≤ 16 / columns * count = mul-le-mul_left (16 / columns) (omega arith) in
    omega (
      arith,
      set.long,
      room (16 / columns * y + r) (omega (arith, below, mul_comm (16 / columns) (y + 1), mul_comm (16 / columns) y)),
      add-mul (16 / columns * y) r stride,
      times_turned y (16 / columns) stride,
    )

pub row_first : (columns y count : ℕ) {w h first stride : ℕ} {f : ℕ → ℕ → ℕ} {old mid : List ℕ} → AreLanes columns → y < count →
    IsRoom w (16 / columns * count) first stride (length old) → IsStridedSet w h first stride f old mid → first + y * (16 / columns * stride) + w ≤ length mid
row_first columns y count lanes less room set = omega (arith, row_room columns y count 0 lanes less room set (some_lines columns lanes))

-- as many as are wanted
pub rows_done : (n y count : ℕ) {w first stride : ℕ} {f : ℕ → ℕ → ℕ} {old new : List ℕ} → IsStridedSet w (n * y) first stride f old new → count ≤ y → y ≤ count →
    IsStridedSet w (n * count) first stride f old new
rows_done n y count set more less =
    let e : y ≡ count = omega arith in
    rw (← e) set

-- rows of a plane are apart where a rectangle lies in it
pub rows_apart : (x w width pad stride : ℕ) → x + w ≤ width → width + 2 * pad ≤ stride → w ≤ stride
rows_apart x w width pad stride inside wide = omega arith

pub strided_to : {w h h' first stride : ℕ} {f : ℕ → ℕ → ℕ} {old new : List ℕ} → h ≡ h' → IsStridedSet w h first stride f old new → IsStridedSet w h' first stride f old new
strided_to same set = strided_rows _ _ _ _ _ _ _ _ same set

-- the same rectangle by other words
pub strided_as : {w h h' first stride : ℕ} {f g : ℕ → ℕ → ℕ} {old new : List ℕ} → IsStridedSet w h first stride f old new → h ≡ h' →
    ((x y : ℕ) → x < w → y < h → f x y ≡ g x y) → IsStridedSet w h' first stride g old new
strided_as set e same = strided_to e (strided_same _ _ _ _ _ _ _ _ set same)

-- ---- six rows

-- their sums and half samples
pub sum_there : {columns stride : ℕ} {rows : SixRows} {p : List ℕ} {at step : ℕ} → AreSixRows columns stride rows p at step →
    (k : ℕ) → k < 16 → taps_of rows k ≡ taps_along p (at + place_of columns stride k) step
sum_there {p = p} six k low =
    same_taps _ _ _ _ _ _ _ _ _ _ _ _
    (six.e k low)
    (six.f k low ∙ ap (slice_index p) (omega arith))
    (six.g k low ∙ ap (slice_index p) (omega arith))
    (six.h k low ∙ ap (slice_index p) (omega arith))
    (six.i k low ∙ ap (slice_index p) (omega arith))
    (six.j k low ∙ ap (slice_index p) (omega arith))

pub half_there : {columns stride : ℕ} {rows : SixRows} {p : List ℕ} {at step : ℕ} → AreSixRows columns stride rows p at step →
    (k : ℕ) → k < 16 → half_of rows k ≡ half_along p (at + place_of columns stride k) step
half_there six k low = ap rounded_sum (sum_there six k low)

-- ---- five rows of a block of 16 columns

-- sixteen samples are one line
one_line : (columns stride : ℕ) → columns ≡ 16 → 16 / columns * stride ≡ stride
one_line columns stride is = ap (λ c. 16 / c * stride) is ∙ omega arith

-- the next line
pub next_line : (columns stride y : ℕ) → columns ≡ 16 → y * (16 / columns * stride) + stride ≡ (y + 1) * (16 / columns * stride)
next_line columns stride y is = omega (arith, add-mul y 1 (16 / columns * stride), one_line columns stride is)

-- the first line of the next pair
pub next_pair : (columns stride pair : ℕ) → columns ≡ 16 → (2 * pair + 1) * (16 / columns * stride) + stride ≡ 2 * (pair + 1) * (16 / columns * stride)
next_pair columns stride pair is = next_line columns stride (2 * pair + 1) is ∙ ap (λ n. n * (16 / columns * stride)) (omega arith)

-- the same rows by another word for their place
pub rows_from : {rows : FiveRows} {p : List ℕ} {at first stride : ℕ} → at ≡ first → AreFiveRows rows p at stride → AreFiveRows rows p first stride
rows_from e rows = rw (← e) rows

place_in_line : (columns stride k : ℕ) → columns ≡ 16 → k < 16 → place_of columns stride k ≡ k
place_in_line columns stride k is low =
    let none : k / 16 ≡ 0 = omega arith in
    rw (is, none) (omega arith)

-- the half samples of these and of a sixth
lane_at : (p row : List ℕ) (at k place : ℕ) → row ≡ chunk at 16 p → k < 16 → at + k ≡ place → slice_index row k ≡ slice_index p place
lane_at p row at k place is low here = ap (λ (v : List ℕ). slice_index v k) is ∙ get_or-chunk at 16 p k 0 low ∙ ap (slice_index p) here

pub half_below : {rows : FiveRows} {p : List ℕ} {at stride : ℕ} (columns : ℕ) (sixth : List ℕ) → columns ≡ 16 → AreFiveRows rows p at stride → sixth ≡ chunk (at + 5 * stride) 16 p →
    (k : ℕ) → k < 16 → half_with rows sixth k ≡ half_along p (at + place_of columns stride k) stride
half_below {p = p} {at = at} {stride = stride} columns sixth is rows there k low =
    let place = place_in_line columns stride k is low in
    ap rounded_sum (same_taps _ _ _ _ _ _ _ _ _ _ _ _
    (lane_at p _ at k _ rows.e low (omega (arith, place)))
    (lane_at p _ _ k _ rows.f low (omega (arith, place)))
    (lane_at p _ _ k _ rows.g low (omega (arith, place)))
    (lane_at p _ _ k _ rows.h low (omega (arith, place)))
    (lane_at p _ _ k _ rows.i low (omega (arith, place)))
    (lane_at p _ _ k _ there low (omega (arith, place))))

pub mean_turned : (a b : ℕ) → mean_of_two a b ≡ mean_of_two b a
mean_turned a b = omega arith

-- ---- a window of sums: those of sixteen samples of a block and of five rows more

module _ (columns stride : ℕ) (lanes : AreLanes columns) (at k n : ℕ) (p : List ℕ) (m : List ℤ) (sums : AreSumsOf columns stride n at p m) (all : 5 * columns + 16 ≤ n) (low : k < 16) where
  -- the sum so many rows further down
  sum_at : (down q v : ℕ) → down ≤ 5 → q ≡ down * columns + k → v ≡ down * stride + (at + place_of columns stride k) → slice_index_or m q (pos 0) ≡ taps_along p v 1
  sum_at down q v few e f =
      let below : down * columns ≤ 5 * columns = mul-le-mul_right columns few in
      rw e (sums.value _ (omega (arith, below)) ∙ ap (λ i. taps_along p i 1) (omega (arith, f, place_further columns stride lanes down k)))

  pub middle_at : centre_along m (0 + k) columns ≡ j_of p stride (at + place_of columns stride k)
  middle_at =
      same_centre _ _ _ _ _ _ _ _ _ _ _ _
      (sum_at 0 _ _ (omega arith) (omega arith) (omega arith))
      (sum_at 1 _ _ (omega arith) (omega arith) (omega arith))
      (sum_at 2 _ _ (omega arith) (omega arith) (omega arith))
      (sum_at 3 _ _ (omega arith) (omega arith) (omega arith))
      (sum_at 4 _ _ (omega arith) (omega arith) (omega arith))
      (sum_at 5 _ _ (omega arith) (omega arith) (omega arith))

  -- b or s of its sum
  pub rounded_at : (down : ℕ) → down ≤ 5 → rounded_sum (slice_index_or m (down * columns + k) (pos 0)) ≡ half_along p (down * stride + (at + place_of columns stride k)) 1
  rounded_at down few = ap rounded_sum (sum_at down _ _ few refl refl)

-- the same sums by another word for their place
pub sums_from : {columns stride n at first : ℕ} {p : List ℕ} {m : List ℤ} → at ≡ first → AreSumsOf columns stride n at p m → AreSumsOf columns stride n first p m
sums_from e sums = rw (← e) sums

by_fractions : (p : List ℕ) (stride k : ℕ) (s : Wide) (u v : ℤ) →
    whole p stride 2 k ≡ s u v → whole_right p stride k ≡ s (u +ℤ pos 1) v → whole p stride 3 k ≡ s u (v +ℤ pos 1) →
    b_of p stride 2 k ≡ half_b s u v → b_of p stride 3 k ≡ half_s s u v → h_of p stride k ≡ half_h s u v → m_of p stride k ≡ half_m s u v → j_of p stride k ≡ half_j s u v →
    (fx fy : ℕ) → quarter_of p stride k fx fy ≡ quarter s u v fx fy
by_fractions p stride k s u v g right below b s' h m j zero (suc (suc (suc f))) = cc
by_fractions p stride k s u v g right below b s' h m j (suc zero) (suc (suc (suc f))) = mean_turned _ _ ∙ cc
by_fractions p stride k s u v g right below b s' h m j (suc (suc zero)) (suc (suc (suc f))) = mean_turned _ _ ∙ cc
by_fractions p stride k s u v g right below b s' h m j (suc (suc (suc f))) (suc (suc (suc f'))) = mean_turned _ _ ∙ cc
by_fractions p stride k s u v g right below b s' h m j fx fy = cc

-- ---- the positions over a list of samples that shows a map are those of the map

-- from place `first` on, p shows w columns and h rows of the map s, those at (left, top) and right of and below them, and the samples around them
module _ (s : Wide) (left top : ℤ) (w h first stride : ℕ) (p : List ℕ)
    (all : (n i j : ℕ) (u v : ℤ) → i < w + 5 → j < h + 5 → n ≡ first + j * stride + i → u ≡ left +ℤ pos i -ℤ pos 2 → v ≡ top +ℤ pos j -ℤ pos 2 → slice_index p n ≡ s u v) where
  -- the taps along row j of the list, and down its column i
  across_is : (n x j : ℕ) (v : ℤ) → x < w → j < h + 5 → n ≡ first + j * stride + x → v ≡ top +ℤ pos j -ℤ pos 2 → taps_along p n 1 ≡ across s (left +ℤ pos x) v
  across_is n x j v q r e g =
      same_taps _ _ _ _ _ _ _ _ _ _ _ _
      (all n x j (left +ℤ pos x -ℤ pos 2) v (omega arith) r e refl g)
      (all (n + 1) (x + 1) j (left +ℤ pos x -ℤ pos 1) v (omega arith) r (omega arith) (omega (arith, ints)) g)
      (all (n + 2 * 1) (x + 2) j (left +ℤ pos x) v (omega arith) r (omega arith) (omega (arith, ints)) g)
      (all (n + 3 * 1) (x + 3) j (left +ℤ pos x +ℤ pos 1) v (omega arith) r (omega arith) (omega (arith, ints)) g)
      (all (n + 4 * 1) (x + 4) j (left +ℤ pos x +ℤ pos 2) v (omega arith) r (omega arith) (omega (arith, ints)) g)
      (all (n + 5 * 1) (x + 5) j (left +ℤ pos x +ℤ pos 3) v (omega arith) r (omega arith) (omega (arith, ints)) g)

  down_is : (n i y : ℕ) (u : ℤ) → i < w + 5 → y < h → n ≡ first + y * stride + i → u ≡ left +ℤ pos i -ℤ pos 2 → taps_along p n stride ≡ down s u (top +ℤ pos y)
  down_is n i y u q r e f =
      same_taps _ _ _ _ _ _ _ _ _ _ _ _
      (all n i y u (top +ℤ pos y -ℤ pos 2) q (omega arith) e f refl)
      (all (n + stride) i (y + 1) u (top +ℤ pos y -ℤ pos 1) q (omega arith) (omega (arith, add-mul y 1 stride)) f (omega (arith, ints)))
      (all (n + 2 * stride) i (y + 2) u (top +ℤ pos y) q (omega arith) (omega (arith, add-mul y 2 stride)) f (omega (arith, ints)))
      (all (n + 3 * stride) i (y + 3) u (top +ℤ pos y +ℤ pos 1) q (omega arith) (omega (arith, add-mul y 3 stride)) f (omega (arith, ints)))
      (all (n + 4 * stride) i (y + 4) u (top +ℤ pos y +ℤ pos 2) q (omega arith) (omega (arith, add-mul y 4 stride)) f (omega (arith, ints)))
      (all (n + 5 * stride) i (y + 5) u (top +ℤ pos y +ℤ pos 3) q (omega arith) (omega (arith, add-mul y 5 stride)) f (omega (arith, ints)))

  -- each position, at column x and row y of the block, and all sixteen
  pub quarter_shown : (x y : ℕ) → x < w → y < h → (fx fy : ℕ) → quarter_of p stride (first + (y * stride + x)) fx fy ≡ quarter s (left +ℤ pos x) (top +ℤ pos y) fx fy
  quarter_shown x y q r =
      let k = first + (y * stride + x) in
      let u = left +ℤ pos x in
      let v = top +ℤ pos y in
      let half = λ (z : ℤ). clip1 (z +ℤ pos 16 >>ℤ 5) in
      let two = add-mul y 2 stride in
      let three = add-mul y 3 stride in
      by_fractions p stride k s u v
      (all (2 * stride + 2 + k) (x + 2) (y + 2) u v (omega arith) (omega arith) (omega (arith, two)) (omega (arith, ints)) (omega (arith, ints)))
      (all (2 * stride + 3 + k) (x + 3) (y + 2) (u +ℤ pos 1) v (omega arith) (omega arith) (omega (arith, two)) (omega (arith, ints)) (omega (arith, ints)))
      (all (3 * stride + 2 + k) (x + 2) (y + 3) u (v +ℤ pos 1) (omega arith) (omega arith) (omega (arith, three)) (omega (arith, ints)) (omega (arith, ints)))
      (ap half (across_is (2 * stride + k) x (y + 2) v q (omega arith) (omega (arith, two)) (omega (arith, ints))))
      (ap half (across_is (3 * stride + k) x (y + 3) (v +ℤ pos 1) q (omega arith) (omega (arith, three)) (omega (arith, ints))))
      (ap half (down_is (2 + k) (x + 2) y u (omega arith) r (omega arith) (omega (arith, ints))))
      (ap half (down_is (3 + k) (x + 3) y (u +ℤ pos 1) (omega arith) r (omega arith) (omega (arith, ints))))
      (same_centre _ _ _ _ _ _ _ _ _ _ _ _
      (across_is k x y (v -ℤ pos 2) q (omega arith) (omega arith) refl)
      (across_is (k + stride) x (y + 1) (v -ℤ pos 1) q (omega arith) (omega (arith, add-mul y 1 stride)) (omega (arith, ints)))
      (across_is (k + 2 * stride) x (y + 2) v q (omega arith) (omega (arith, two)) (omega (arith, ints)))
      (across_is (k + 3 * stride) x (y + 3) (v +ℤ pos 1) q (omega arith) (omega (arith, three)) (omega (arith, ints)))
      (across_is (k + 4 * stride) x (y + 4) (v +ℤ pos 2) q (omega arith) (omega (arith, add-mul y 4 stride)) (omega (arith, ints)))
      (across_is (k + 5 * stride) x (y + 5) (v +ℤ pos 3) q (omega arith) (omega (arith, add-mul y 5 stride)) (omega (arith, ints))))

-- ---- what the calls about a block ask for

-- what a call with a plane asks for: a plane takes 48 bytes, fewer than half of what there can be
pub below_half : 48 < 2 ^ 63
below_half = omega arith

-- and so are the 8 bytes of an extent, the 16 of a target or of two references, the 24 of a source, the 32 of lines, and the 40 of the targets of both chroma components or of a surrounded block
pub one_word : 8 < 2 ^ 63
one_word = omega arith

pub two_words : 16 < 2 ^ 63
two_words = omega arith

pub three_words : 24 < 2 ^ 63
three_words = omega arith

pub four_words : 32 < 2 ^ 63
four_words = omega arith

pub five_words : 40 < 2 ^ 63
five_words = omega arith

-- the rows of a luma block and five more are few
pub lines_few : (columns n : ℕ) → AreLanes columns → n ≤ 21 → 16 / columns * n < 2 ^ 16
lines_few columns n lanes few =
    let one : 16 / columns * 1 ≤ 16 / columns * columns = mul-le-mul_left (16 / columns) lanes.some in
    let most : 16 / columns ≤ 16 = omega (arith, one, lanes.all) in
    let all : 16 / columns * n ≤ 16 * 21 = mul-le-mul most few in
    omega (arith, all)

-- and so are those of a chroma block and one more
pub lines_few_more : (columns n : ℕ) → AreLanes columns → n ≤ 4 → 16 / columns * n + 1 < 2 ^ 16
lines_few_more columns n lanes few =
    let one : 16 / columns * 1 ≤ 16 / columns * columns = mul-le-mul_left (16 / columns) lanes.some in
    let most : 16 / columns ≤ 16 = omega (arith, one, lanes.all) in
    let all : 16 / columns * n ≤ 16 * 4 = mul-le-mul most few in
    omega (arith, all)

-- ---- blocks that the calls predict, as blocks of the definition's samples

pub back_moved : (z : ℤ) → IsMoved z → to_z w64 (of_z w64 z) ≡ z
back_moved z p = omega (arith, ints, p.low, p.high)

pub place_moved : (z : ℤ) → IsMoved z → IsPlace (to_z w64 (of_z w64 z))
place_moved z p = rw (back_moved z p) (record { low = omega (arith, ints, p.low); high = omega (arith, ints, p.high) })

-- two columns or rows before it
pub back_before : (z : ℤ) → IsMoved z → to_z w64 (of_z w64 (to_z w64 (of_z w64 z) -ℤ pos 2)) ≡ z -ℤ pos 2
back_before z p = rw (back_moved z p) (omega (arith, ints, p.low, p.high))

pub place_before : (z : ℤ) → IsMoved z → IsPlace (to_z w64 (of_z w64 (to_z w64 (of_z w64 z) -ℤ pos 2)))
place_before z p = rw (back_before z p) (record { low = omega (arith, ints, p.low); high = omega (arith, ints, p.high) })

-- the same place by other words
pub moved_at : (s : Wide) (left top : ℤ) (i j : ℕ) → IsMoved left → IsMoved top → s (to_z w64 (of_z w64 left) +ℤ pos i) (to_z w64 (of_z w64 top) +ℤ pos j) ≡ s (left +ℤ pos i) (top +ℤ pos j)
moved_at s left top i j p q = rw (back_moved left p, back_moved top q) refl

-- what a vector leads to is the definition's sample
pub vector_at : (shift : ℕ) (F : ℤ → ℤ → ℕ → ℕ → ℕ) (mv : Mv) (x y right down : ℕ) (left top : ℤ) →
    left ≡ pos x +ℤ (mv.x >>ℤ shift) → top ≡ pos y +ℤ (mv.y >>ℤ shift) → right ≡ low_bits mv.x shift → down ≡ low_bits mv.y shift → (i j : ℕ) →
    F (left +ℤ pos i) (top +ℤ pos j) right down
    ≡ F (pos (x + i) +ℤ (mv.x >>ℤ shift)) (pos (y + j) +ℤ (mv.y >>ℤ shift)) (low_bits mv.x shift) (low_bits mv.y shift)
vector_at shift F mv x y right down left top is_left is_top is_right is_down i j =
    let column : left +ℤ pos i ≡ pos (x + i) +ℤ (mv.x >>ℤ shift) = omega (arith, ints, is_left) in
    let row : top +ℤ pos j ≡ pos (y + j) +ℤ (mv.y >>ℤ shift) = omega (arith, ints, is_top) in
    rw (column, row, is_right, is_down) refl

-- a block between whole samples, from rows that show what is around it
pub between_at : (s : Wide) (left left' top top' : ℤ) (w h columns lines first stride fx fy : ℕ) (p : List ℕ) → left' ≡ left -ℤ pos 2 → top' ≡ top -ℤ pos 2 →
    ((i j : ℕ) → i < columns → j < lines → slice_index p (first + j * stride + i) ≡ s (left' +ℤ pos i) (top' +ℤ pos j)) →
    w + 5 ≤ columns → h + 5 ≤ lines → (i j : ℕ) → i < w → j < h → quarter_of p stride (first + (j * stride + i)) fx fy ≡ quarter s (left +ℤ pos i) (top +ℤ pos j) fx fy
between_at s left left' top top' w h columns lines first stride fx fy p is_left is_top shown wide low i j column row =
    quarter_shown s left top w h first stride p (λ n i j u v column row e f g.
    let across : left' +ℤ pos i ≡ u = omega (arith, ints, is_left, f) in
    let down : top' +ℤ pos j ≡ v = omega (arith, ints, is_top, g) in
    rw (e, ← across, ← down) (shown i j (omega (arith, wide)) (omega (arith, low)))) i j column row fx fy

-- ---- chroma blocks that the calls predict, as blocks of the definition's samples

-- at whole samples the sample itself
pub whole_at : (s : Wide) (u v : ℤ) → s u v ≡ bilinear s u v 0 0
whole_at s u v = omega arith

pub same_blend : (a b c d e f g h a' b' c' d' e' f' g' h' : ℕ) → a ≡ a' → b ≡ b' → c ≡ c' → d ≡ d' → e ≡ e' → f ≡ f' → g ≡ g' → h ≡ h' →
    (a * e + b * f + c * g + d * h + 32) / 64 ≡ (a' * e' + b' * f' + c' * g' + d' * h' + 32) / 64
same_blend a b c d e f g h a' b' c' d' e' f' g' h' p q r t u v w x = cc (p, q, r, t, u, v, w, x)

-- a sample between whole ones, from rows that show what is around it
module _ (s : Wide) (left left' top top' : ℤ) (columns lines first stride right down : ℕ) (p : List ℕ) (wh wr wb wa : ℕ)
    (shown : (i j : ℕ) → i < columns → j < lines → slice_index p (first + j * stride + i) ≡ s (left' +ℤ pos i) (top' +ℤ pos j)) (is_left : left' ≡ left) (is_top : top' ≡ top)
    (is_here : wh ≡ (8 - right) * (8 - down)) (is_right : wr ≡ right * (8 - down)) (is_below : wb ≡ (8 - right) * down) (is_across : wa ≡ right * down) where
  at : (m i j : ℕ) (u v : ℤ) → i < columns → j < lines → m ≡ first + j * stride + i → left' +ℤ pos i ≡ u → top' +ℤ pos j ≡ v → slice_index p m ≡ s u v
  at m i j u v column row place across below = rw (place, ← across, ← below) (shown i j column row)

  pub blend_at : (i j : ℕ) → i + 1 < columns → j + 1 < lines →
      (wh * slice_index p (first + (j * stride + i)) + wr * slice_index p (first + (j * stride + i) + 1)
      + wb * slice_index p (first + (j * stride + i) + stride) + wa * slice_index p (first + (j * stride + i) + stride + 1) + 32) / 64
      ≡ bilinear s (left +ℤ pos i) (top +ℤ pos j) right down
  blend_at i j column row =
      let k = first + (j * stride + i) in
      let next = add-mul j 1 stride in
      same_blend _ _ _ _ _ _ _ _ _ _ _ _ _ _ _ _ is_here is_right is_below is_across
      (at k i j (left +ℤ pos i) (top +ℤ pos j) (omega arith) (omega arith) (omega arith) (omega (arith, ints)) (omega (arith, ints)))
      (at (k + 1) (i + 1) j (left +ℤ pos i +ℤ pos 1) (top +ℤ pos j) (omega arith) (omega arith) (omega arith) (omega (arith, ints)) (omega (arith, ints)))
      (at (k + stride) i (j + 1) (left +ℤ pos i) (top +ℤ pos j +ℤ pos 1) (omega arith) (omega arith) (omega (arith, next)) (omega (arith, ints)) (omega (arith, ints)))
      (at (k + stride + 1) (i + 1) (j + 1) (left +ℤ pos i +ℤ pos 1) (top +ℤ pos j +ℤ pos 1) (omega arith) (omega arith) (omega (arith, next)) (omega (arith, ints)) (omega (arith, ints)))

-- ---- worked values of inter prediction

-- a picture of 9 by 7 samples, and the values of all sixteen quarter positions there, found by another way
abbrev rough : ℕ → ℕ → ℕ
rough x y = slice_index (231 ∷ 255 ∷ 0 ∷ 243 ∷ 0 ∷ 255 ∷ 0 ∷ 21 ∷ 255 ∷ 80 ∷ 7 ∷ 0 ∷ 0 ∷ 123 ∷ 255 ∷ 255 ∷ 100 ∷ 119 ∷ 255 ∷ 2 ∷ 255 ∷ 255 ∷ 42 ∷ 255 ∷ 117 ∷ 0 ∷ 35 ∷ 255 ∷ 255 ∷ 0 ∷ 8 ∷ 0 ∷ 0 ∷ 255 ∷ 255 ∷ 37 ∷ 101 ∷ 255 ∷ 255 ∷ 0 ∷ 0 ∷ 0 ∷ 0 ∷ 255 ∷ 0 ∷ 255 ∷ 97 ∷ 255 ∷ 0 ∷ 255 ∷ 0 ∷ 138 ∷ 0 ∷ 0 ∷ 201 ∷ 0 ∷ 0 ∷ 255 ∷ 4 ∷ 255 ∷ 0 ∷ 0 ∷ 106 ∷ []) (9 * y + x)

-- ---- worked examples, a row each

record WorkedRows : Type 0 where
  -- a vector far off the picture gives its lower left sample
  far_vector : inter_luma 16 16 (λ x y. 16 * y + x) (record { x = neg_ℤ (pos 32768); y = pos 32767 }) 3 5 ≡ 240
  far_vector_chroma : inter_chroma 8 8 (λ x y. 8 * y + x) (record { x = neg_ℤ (pos 32768); y = pos 32767 }) 3 5 ≡ 56
  -- the six taps over a step
  taps_over_step : map (λ i. across (λ x y. if nat_lt (nat_abs x) 8 then 128 else 136) (pos (i + 2)) (pos 0)) (range_with_len 0 11)
      ≡ pos 4096 ∷ pos 4096 ∷ pos 4096 ∷ pos 4104 ∷ pos 4064 ∷ pos 4224 ∷ pos 4384 ∷ pos 4344 ∷ pos 4352 ∷ pos 4352 ∷ pos 4352 ∷ []
  taps_low : six_taps (pos 0) (pos 255) (pos 0) (pos 0) (pos 255) (pos 0) ≡ neg_ℤ (pos 2550)
  taps_high : six_taps (pos 255) (pos 0) (pos 255) (pos 255) (pos 0) (pos 255) ≡ pos 10710
  -- weighted prediction
  weight_half : weighted 1 (pos 3) (neg_ℤ (pos 4)) 128 ≡ 188
  weight_below : weighted 0 (neg_ℤ (pos 1)) (pos 5) 128 ≡ 0
  weight_above : weighted 7 (pos 127) (pos 127) 255 ≡ 255
  quarters_0 : map (λ i. inter_luma 9 7 rough (record { x = (pos 0) +ℤ pos (i % 4); y = (pos 0) +ℤ pos (i / 4) }) 3 2) (range_with_len 0 16) ≡ 255 ∷ 183 ∷ 110 ∷ 76 ∷ 214 ∷ 141 ∷ 99 ∷ 63 ∷ 172 ∷ 130 ∷ 87 ∷ 51 ∷ 90 ∷ 97 ∷ 54 ∷ 18 ∷ []
  quarters_1 : map (λ i. inter_luma 9 7 rough (record { x = (negsuc 7) +ℤ pos (i % 4); y = (pos 4) +ℤ pos (i / 4) }) 0 6) (range_with_len 0 16) ≡ 201 ∷ 198 ∷ 195 ∷ 198 ∷ 202 ∷ 199 ∷ 196 ∷ 199 ∷ 203 ∷ 200 ∷ 196 ∷ 200 ∷ 202 ∷ 199 ∷ 196 ∷ 199 ∷ []
  quarters_2 : map (λ i. inter_luma 9 7 rough (record { x = (pos 12) +ℤ pos (i % 4); y = (negsuc 35) +ℤ pos (i / 4) }) 8 0) (range_with_len 0 16) ≡ 255 ∷ 255 ∷ 255 ∷ 255 ∷ 255 ∷ 255 ∷ 255 ∷ 255 ∷ 255 ∷ 255 ∷ 255 ∷ 255 ∷ 255 ∷ 255 ∷ 255 ∷ 255 ∷ []
  eighths : map (λ k. inter_chroma 9 7 rough (record { x = pos (8 * (k % 3) + (k * 5) % 8) -ℤ pos 8; y = pos (8 * (k % 2) + (k * 3) % 8) }) 7 5) (range_with_len 0 16) ≡ 138 ∷ 66 ∷ 80 ∷ 0 ∷ 27 ∷ 106 ∷ 26 ∷ 40 ∷ 0 ∷ 0 ∷ 20 ∷ 106 ∷ 35 ∷ 13 ∷ 27 ∷ 0 ∷ []

worked_rows : WorkedRows
worked_rows = search rules
