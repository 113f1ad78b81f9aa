-- Blocks of a plane: predicted, laid into it, and residuals that are added in place.
pub mod Common
unfoldable pub use Common.*

-- ---- blocks predicted and laid into a plane

-- a block set to the same samples is the same
pub with_block_same : (s : Plane) (left top w h : ℕ) (f g : ℕ → ℕ → ℕ) → ((x y : ℕ) → x < w → y < h → f x y ≡ g x y)
    → with_block s left top w h f ≡ with_block s left top w h g
with_block_same s left top w h f g same = grind (arith, nat_tests, plane_of_same, by_place)

-- a prediction that is to be had
pub predicted : (can : Bool) (v : ℕ) → can ≡ true → unwrap_or (if can then Some v else None) 0 ≡ v
predicted can v there = ap (λ t. unwrap_or (if t then Some v else None) 0) there

pub sample4x4 : (f : ℕ → ℕ → ℕ) (x y : ℕ) → x < 4 → y < 4 → slice_index (block4x4 f) (4 * y + x) ≡ f x y
sample4x4 f x y column row = ap (slice_index (block4x4 f)) (omega arith) ∙ sample-plane_of 4 4 f x y column row

-- a place outside a rectangle
pub outside : (left top width height x y : ℕ) → (left ≤ x → x < left + width → top ≤ y → y < top + height → ⊥) → is_inside left top width height x y ≡ false
outside left top width height x y none = grind (arith, by_place)

-- a residual of 0 changes nothing
pub unchanged : (v : ℕ) (z : ℤ) → v ≤ 255 → z ≡ pos 0 → sum_of v z ≡ v
unchanged v z small none = rw none (grind (arith, ints, nat_tests))

-- ---- residuals added to a plane in place, 4x4 block by block

-- a block set to the samples that it has
pub block_of_its_own : (s : Plane) (left top w h : ℕ) (f : ℕ → ℕ → ℕ) → length s.samples ≡ s.width * s.height
    → ((x y : ℕ) → x < w → y < h → left + x < s.width → top + y < s.height → f x y ≡ sample s (left + x) (top + y))
    → s ≡ with_block s left top w h f
block_of_its_own s left top w h f long same = grind (arith, nat_tests, no_line s left top w f long, plane_of_same, by_place, outside)

-- a residual of 0 changes nothing
pub no_residual_added : (s : Plane) (left top w h : ℕ) (f : ℕ → ℕ → ℤ) → length s.samples ≡ s.width * s.height
    → ((x y : ℕ) → x < s.width → y < s.height → sample s x y ≤ 255) → ((x y : ℕ) → x < w → y < h → f x y ≡ pos 0)
    → s ≡ with_residual s left top w h f
no_residual_added s left top w h f long small none = grind (arith, block_of_its_own, unchanged)

-- the same residual under other words
pub residual_same : (s : Plane) (left top w h : ℕ) (f g : ℕ → ℕ → ℤ) → ((x y : ℕ) → x < w → y < h → f x y ≡ g x y)
    → with_residual s left top w h f ≡ with_residual s left top w h g
residual_same s left top w h f g same = grind (arith, nat_tests, with_block_same)

-- a residual added to a block that was predicted
module _ (s : Plane) (left top w h : ℕ) (p : ℕ → ℕ → ℕ) (f : ℕ → ℕ → ℤ) (columns : left + w ≤ s.width) (rows : top + h ≤ s.height) where
  abbrev with_prediction : Plane
  with_prediction = with_block s left top w h p

  abbrev given : ℕ → ℕ → Bool → ℕ
  given u v t = if t then p (u - left) (v - top) else sample s u v

  abbrev is_sum : ℕ → ℕ → Bool → Type 0
  is_sum u v t =
      (if t then sum_of (sample with_prediction (left + (u - left)) (top + (v - top))) (f (u - left) (v - top)) else sample with_prediction u v)
      ≡ (if t then sum_of (p (u - left) (v - top)) (f (u - left) (v - top)) else sample s u v)

  each_sum : (u v : ℕ) → u < s.width → v < s.height → is_sum u v (is_inside left top w h u v)
  each_sum u v column row =
      by_place (is_sum u v) left top w h u v
      (λ a b c d.
      ap (λ i. sum_of (sample with_prediction i (top + (v - top))) (f (u - left) (v - top))) (omega arith)
      ∙ ap (λ j. sum_of (sample with_prediction u j) (f (u - left) (v - top))) (omega arith)
      ∙ ap (λ n. sum_of n (f (u - left) (v - top))) (sample-with_block s left top w h p u v column row ∙ ap (given u v) (inside left top w h u v a b c d)))
      (λ none. sample-with_block s left top w h p u v column row ∙ ap (given u v) (outside left top w h u v none))

  pub residual_over : with_residual with_prediction left top w h f ≡ with_block s left top w h (λ x y. sum_of (p x y) (f x y))
  residual_over = grind (arith, nat_tests, plane_of_same, each_sum)

-- ---- blocks that tile a square

-- The samples that b numbers k are those of the 4x4 block at (l, t) of a square.
pub record IsTile (size : ℕ) (b : ℕ → ℕ → ℕ) (k l t : ℕ) : Type 0 where
  pub across : l + 4 ≤ size
  pub down : t + 4 ≤ size
  pub column : l ≡ 4 * (l / 4)
  pub row : t ≡ 4 * (t / 4)
  pub number : (i j : ℕ) → i < 4 → j < 4 → b (l + i) (t + j) ≡ k
  pub place : (x y : ℕ) → x < size → y < size → b x y ≡ k → (l ≤ x) × (x < l + 4) × (t ≤ y) × (y < t + 4)

-- a residual by the column, the row and the number of a sample's block, and by its place in the block
abbrev pub by_tile : (ℕ → ℕ → ℕ) → (ℕ → ℕ → ℕ → ℕ → ℕ → ℤ) → ℕ → ℕ → ℤ
by_tile b f x y = f (x / 4) (y / 4) (b x y) (x % 4) (y % 4)

pub in_tile : (size : ℕ) (b : ℕ → ℕ → ℕ) (f : ℕ → ℕ → ℕ → ℕ → ℕ → ℤ) (k l t : ℕ) → IsTile size b k l t → (i j : ℕ) → i < 4 → j < 4
    → by_tile b f (l + i) (t + j) ≡ f (l / 4) (t / 4) k i j
in_tile size b f k l t tile i j column row = grind (arith, tile.column, tile.row, tile.number i j)

module _ (s : Plane) (left top size : ℕ) (b : ℕ → ℕ → ℕ) (f : ℕ → ℕ → ℕ → ℕ → ℕ → ℤ) where
  abbrev chosen : ℕ → ℕ → Bool → ℕ
  chosen x y t = if t then sum_of (sample s (left + x) (top + y)) (by_tile b f x y) else sample s (left + x) (top + y)

  -- the blocks before the one that b numbers k have their residual f, and the others are as they were
  abbrev with_blocks_before : ℕ → Plane
  with_blocks_before k = with_block s left top size size (λ x y. chosen x y (nat_lt (b x y) k))

  none_before : length s.samples ≡ s.width * s.height → s ≡ with_blocks_before 0
  none_before long = grind (arith, block_of_its_own)

  all_before : (k : ℕ) → ((x y : ℕ) → x < size → y < size → b x y < k) → with_blocks_before k ≡ with_residual s left top size size (by_tile b f)
  all_before k few = grind (arith, nat_tests, with_block_same, nat_lt)

  module _ (k l t : ℕ) (g : ℕ → ℕ → ℤ) (columns : left + size ≤ s.width) (rows : top + size ≤ s.height) (tile : IsTile size b k l t)
      (value : (i j : ℕ) → g i j ≡ f (l / 4) (t / 4) k i j) where
    abbrev cur : Plane
    cur = with_blocks_before k

    abbrev put : ℕ → ℕ → ℕ → Bool → ℕ
    put n u v q = if q then chosen (u - left) (v - top) (nat_lt (b (u - left) (v - top)) n) else sample s u v

    abbrev added : ℕ → ℕ → Bool → ℕ
    added u v q =
        if q then sum_of (sample cur (left + l + (u - (left + l))) (top + t + (v - (top + t)))) (g (u - (left + l)) (v - (top + t))) else sample cur u v

    here : (u v : ℕ) → left + l ≤ u → u < left + l + 4 → top + t ≤ v → v < top + t + 4
        → (b (u - left) (v - top) ≡ k) × (g (u - (left + l)) (v - (top + t)) ≡ by_tile b f (u - left) (v - top))
    here u v p q r w =
        let i = u - (left + l) in
        let j = v - (top + t) in
        let x : u - left ≡ l + i = omega arith in
        let y : v - top ≡ t + j = omega arith in
        rw (x, y) (tile.number i j (omega arith) (omega arith), value i j ∙ sym (in_tile size b f k l t tile i j (omega arith) (omega arith)))

    within : (u v : ℕ) → u < s.width → v < s.height → left + l ≤ u → u < left + l + 4 → top + t ≤ v → v < top + t + 4
        → added u v true ≡ put (k + 1) u v (is_inside left top size size u v)
    within u v column row p q r w =
        let h = here u v p q r w in
        let number = h.0 in
        let no : nat_lt (b (u - left) (v - top)) k ≡ false = grind (arith, nat_tests) in
        let yes : nat_lt (b (u - left) (v - top)) (k + 1) ≡ true = grind (arith, nat_tests) in
        let it : is_inside left top size size u v ≡ true =
        inside left top size size u v (omega arith) (omega (arith, tile.across)) (omega arith) (omega (arith, tile.down)) in
        let i : left + l + (u - (left + l)) ≡ u = omega arith in
        let j : top + t + (v - (top + t)) ≡ v = omega arith in
        let x : left + (u - left) ≡ u = omega arith in
        let y : top + (v - top) ≡ v = omega arith in
        rw (i, j, sample-with_block s left top size size (λ x y. chosen x y (nat_lt (b x y) k)) u v column row, it, no, yes, h.1, x, y) refl

    -- a sample that is not of block k is of a block before it, or behind it
    same_test : (x y : ℕ) → b x y ≢ k → nat_lt (b x y) k ≡ nat_lt (b x y) (k + 1)
    same_test x y other = grind (arith, nat_tests)

    without : (u v : ℕ) → u < s.width → v < s.height → (left + l ≤ u → u < left + l + 4 → top + t ≤ v → v < top + t + 4 → ⊥)
        → added u v false ≡ put (k + 1) u v (is_inside left top size size u v)
    without u v column row none = grind (arith, nat_tests, sample-with_block, nat_lt, by_place, same_test)

    one_more : with_residual cur (left + l) (top + t) 4 4 g ≡ with_blocks_before (k + 1)
    one_more = grind (arith, nat_tests, plane_of_same, by_place, within, without)

-- ---- block by block

-- The residual of the blocks before block k is added to s in the square of the macroblock in this column and row, which begins at (left, top).
pub record AddedBefore (s cur : Plane) (size column row left top : ℕ) (b : ℕ → ℕ → ℕ) (f : ℕ → ℕ → ℕ → ℕ → ℕ → ℤ) (k : ℕ) : Type 0 where
  pub wide : cur.width ≡ s.width
  pub high : cur.height ≡ s.height
  pub left_is : left ≡ size * column
  pub top_is : top ≡ size * row
  pub done : cur ≡ with_blocks_before s (size * column) (size * row) size b f k

module _ (s : Plane) (size column row left top : ℕ) (b : ℕ → ℕ → ℕ) (f : ℕ → ℕ → ℕ → ℕ → ℕ → ℤ) where
  pub added_none : length s.samples ≡ s.width * s.height → left ≡ size * column → top ≡ size * row → AddedBefore s s size column row left top b f 0
  added_none long across down =
      record { wide = refl; high = refl; left_is = across; top_is = down; done = none_before s (size * column) (size * row) size b f long }

  pub added_more : size * column + size ≤ s.width → size * row + size ≤ s.height → (cur new : Plane) (k l t : ℕ) (g : ℕ → ℕ → ℤ)
      → AddedBefore s cur size column row left top b f k → IsTile size b k l t → ((i j : ℕ) → g i j ≡ f (l / 4) (t / 4) k i j)
      → new ≡ with_residual cur (left + l) (top + t) 4 4 g → AddedBefore s new size column row left top b f (k + 1)
  added_more columns rows cur new k l t g before tile value added = record {
    wide = ap (λ (p : Plane). p.width) added ∙ before.wide;
    high = ap (λ (p : Plane). p.height) added ∙ before.high;
    left_is = before.left_is;
    top_is = before.top_is;
    done = rw (before.left_is, before.top_is, before.done) at added ∙ one_more s (size * column) (size * row) size b f k l t g columns rows tile value;
  }

  pub added_all : (cur : Plane) (k : ℕ) → AddedBefore s cur size column row left top b f k → ((x y : ℕ) → x < size → y < size → b x y < k)
      → cur ≡ with_residual s (size * column) (size * row) size size (by_tile b f)
  added_all cur k before few = before.done ∙ all_before s (size * column) (size * row) size b f k few

-- ---- the 4x4 blocks of a macroblock, and what their residuals add: the blocks of a macroblock

luma_number : (k x y : ℕ) → k < 16 → block_x k ≤ x → x < block_x k + 4 → block_y k ≤ y → y < block_y k + 4 → block_at x y ≡ k
luma_number k x y few p q r s = grind (arith, ints, nat_tests)

pub luma_block_place : (x y : ℕ) → x < 16 → y < 16 → (block_x (block_at x y) ≡ 4 * (x / 4)) × (block_y (block_at x y) ≡ 4 * (y / 4))
luma_block_place x y column row = (omega (arith, column, row), omega (arith, column, row))

luma_within : (k x y : ℕ) → x < 16 → y < 16 → block_at x y ≡ k → (block_x k ≤ x) × (x < block_x k + 4) × (block_y k ≤ y) × (y < block_y k + 4)
luma_within k x y column row is = grind (arith, ints, nat_tests, luma_block_place)

pub luma_tile : (k l t : ℕ) → k < 16 → l ≡ block_x k → t ≡ block_y k → IsTile 16 block_at k l t
luma_tile k l t few across down = grind (arith, luma_number, luma_within)

abbrev pub chroma_number : ℕ → ℕ → ℕ
chroma_number x y = 2 * (y / 4) + x / 4

pub chroma_tile : (k : ℕ) → k < 4 → IsTile 8 chroma_number k (4 * (k % 2)) (4 * (k / 2))
chroma_tile k few = grind arith

-- ---- their residuals

-- by sixteen levels a block
abbrev pub residual_by_levels : ℕ → List (List ℤ) → (u v k x y : ℕ) → ℤ
residual_by_levels qp blocks u v k x y = residual4x4 qp (slice_index_or blocks k []) x y

-- by fifteen, and a DC value for the block in column u and row v
abbrev pub residual_by_dc : ℕ → (ℕ → ℕ → ℤ) → List (List ℤ) → (u v k x y : ℕ) → ℤ
residual_by_dc qp dc blocks u v k x y = residual4x4_with_dc qp (dc u v) (slice_index_or blocks k []) x y

-- ---- blocks whose levels are all 0

abbrev weight : ℤ → ℕ
weight l = cond (not (nat_abs l == 0)) 1 0

zero_level : (l : ℤ) → weight l ≡ 0 → l ≡ pos 0
zero_level (pos zero) e = refl
zero_level l e = absurd (grind (arith, ints, nat_tests))

-- where none of the levels counts, each of them is 0
pub no_level : (levels : List ℤ) → total_coeff levels ≡ 0 → (i : ℕ) → level levels i ≡ pos 0
no_level [] e i = refl
no_level (l ∷ ls) e zero = zero_level l (omega (arith, sum_by-append weight (l ∷ []) ls, e))
no_level (l ∷ ls) e (suc i) = no_level ls (omega (arith, sum_by-append weight (l ∷ []) ls, e)) i

-- ---- a chroma component whose levels are all 0

no_chroma_product : (dc : List ℤ) (x y : ℕ) → ((i : ℕ) → level dc i ≡ pos 0) → chroma_dc_product dc x y ≡ pos 0
no_chroma_product dc x y none = simp (none, *ℤ-zero, zero-*ℤ)

no_chroma_dc : (qp : ℕ) (dc : List ℤ) (x y : ℕ) → ((i : ℕ) → level dc i ≡ pos 0) → chroma_dc qp dc x y ≡ pos 0
no_chroma_dc qp dc x y none = grind (arith, no_chroma_product, zero-*ℤ)

-- it has no residual
pub no_chroma : (qp : ℕ) (dc : List ℤ) (ac : List (List ℤ)) (x y : ℕ) → total_coeff dc ≡ 0
    → ((k : ℕ) → k < 4 → total_coeff (slice_index_or ac k []) ≡ 0) → x < 8 → y < 8 → chroma_residual qp dc ac x y ≡ pos 0
no_chroma qp dc ac x y no_dc no_ac column row = grind (arith, residual_of_dc, no_level, no_chroma_dc)

-- ---- what is asked of each of sixteen blocks

abbrev sixteen : List ℕ
sixteen = range_with_len 0 16

-- block k has the sides of its mode
abbrev pub can_nxn : ReadableNeighbours → List NearMode → ℕ → Bool
can_nxn r modes k = can_predict4x4 (readable_sides r k) (mode4x4_of (mode_number (slice_index_or modes k absent)))

pub all_sixteen : (p : ℕ → Bool) → ((k : ℕ) → k < 16 → p k ≡ true) → list_all p (range_with_len 0 16) ≡ true
all_sixteen p f =
    list_all-from_AllPass p sixteen (All-from_get_or (λ x. p x ≡ true) sixteen 0 (λ k low. subst (λ n. p n ≡ true) (sym (get_or-range_with_len 0 16 k 0 low ∙ zero-add k)) (f k low)))

pub each_sixteen : (p : ℕ → Bool) → list_all p (range_with_len 0 16) ≡ true → (k : ℕ) → k < 16 → p k ≡ true
each_sixteen p all k low =
    subst (λ n. p n ≡ true) (get_or-range_with_len 0 16 k 0 low ∙ zero-add k) (All-get_or (λ x. p x ≡ true) sixteen k 0 low (AllPass-from_list_all p sixteen all))

pub one_false : (p : ℕ → Bool) (k : ℕ) → k < 16 → p k ≡ false → list_all p (range_with_len 0 16) ≡ false
one_false p k low not = list_all_at p sixteen k 0 low (subst (λ n. p n ≡ false) (sym (get_or-range_with_len 0 16 k 0 low ∙ zero-add k)) not)

pub same_sixteen : (p q : ℕ → Bool) → ((k : ℕ) → k < 16 → p k ≡ q k) → list_all p (range_with_len 0 16) ≡ list_all q (range_with_len 0 16)
same_sixteen p q same = grind (arith, ltb-true)

-- ---- predictions laid into a plane, weighted where there are weights

pub length_block : (w h : ℕ) (f : ℕ → ℕ → ℕ) → length (block_of w h f) ≡ w * h
length_block w h f = length-map-range_with_len (λ n. f (n % w) (n / w)) 0 (w * h)

block_sample : (w h i j : ℕ) (f : ℕ → ℕ → ℕ) → i < w → j < h → slice_index (block_of w h f) (j * w + i) ≡ f i j
block_sample w h i j f column row =
    get_or-map-range_with_len (λ n. f (n % w) (n / w)) 0 (w * h) (j * w + i) (j * w + i) 0 (mul-add-lt j w i h row column) (omega arith)
    ∙ ap (λ u. f u ((j * w + i) / w)) (mod-mul-add j w i column)
    ∙ ap (λ v. f i v) (div-mul-add j w i column)

-- a block of samples, each changed
pub block_changed : (w h : ℕ) (k : ℕ → ℕ) (block out : List ℕ) (s : Plane) (x y : ℕ) → length block ≡ w * h → out ≡ map k block
    → with_block s x y w h (λ i j. slice_index out (w * j + i)) ≡ with_block s x y w h (λ i j. k (slice_index block (w * j + i)))
block_changed w h k block out s x y long is =
    with_block_same s x y w h (λ i j. slice_index out (w * j + i)) (λ i j. k (slice_index block (w * j + i)))
    (λ i j column row. ap (λ xs. slice_index xs (w * j + i)) is ∙ get_or-map k block (w * j + i) 0 0 (omega (arith, long, mul-add-lt j w i h row column, mul_comm w j)))

module _ (s : Plane) (left top x y w h : ℕ) (p : ℕ → ℕ → ℕ) (by : Option Weight) where
  abbrev wanted_at : Option Weight → ℕ → ℕ → ℕ
  wanted_at o i j = weighted_by o (p (left + (x + i)) (top + (y + j)))

  moved : (i j : ℕ) → p (left + x + i) (top + y + j) ≡ p (left + (x + i)) (top + (y + j))
  moved i j = ap (λ u. p u (top + y + j)) (omega arith) ∙ ap (p (left + (x + i))) (omega arith)

  -- without a weight
  pub laid_by : by ≡ None → with_block s (left + x) (top + y) w h (λ i j. p (left + x + i) (top + y + j)) ≡ with_block s (left + x) (top + y) w h (wanted_at by)
  laid_by e = grind (arith, with_block_same, moved)

  -- with one
  pub laid_weighted : (o : Weight) → by ≡ Some o → (block : List ℕ) → block ≡ block_of w h (λ i j. p (left + x + i) (top + y + j))
      → with_block s (left + x) (top + y) w h (λ i j. weighted_by (Some o) (slice_index block (w * j + i))) ≡ with_block s (left + x) (top + y) w h (wanted_at by)
  laid_weighted o e block is = grind (arith, with_block_same, mul_comm, block_sample, moved)

-- ---- the samples around a block of a plane, in the rows that the plane lends

module _ (pad left upper size first stride : ℕ) (s : Plane) (sides : Sides) (rows : List ℕ) (have : HaveSamples pad s rows)
    (columns : left + size ≤ s.width) (lines : upper + size ≤ s.height) (inside : AreInside left upper s.width sides)
    (is_first : first ≡ stored_place pad s.width left upper) (is_stride : stride ≡ stride_of pad s.width) where
  -- from a row to the one above
  row_above : 0 < upper → (upper + pad) * stride_of pad s.width ≡ (upper - 1 + pad) * stride_of pad s.width + stride_of pad s.width
  row_above some = ap (λ n. n * stride_of pad s.width) (omega arith) ∙ add-mul (upper - 1 + pad) 1 (stride_of pad s.width) ∙ omega arith

  is_below : 0 < upper → stride ≤ first
  is_below some = omega (arith, is_first, is_stride, row_above some)

  above_at : (i : ℕ) → 0 < upper → left + i < s.width → 0 < s.height → seen_from s left upper (pos i) (negsuc 0) ≡ slice_index rows (first - stride + i)
  above_at i some column row = grind (arith, ints, row_above)

  left_at : (i : ℕ) → 0 < left → i < size → seen_from s left upper (negsuc 0) (pos i) ≡ slice_index rows (first + i * stride - 1)
  left_at i some row = grind (arith, ints, add-mul)

  corner_at : 0 < left → 0 < upper → 0 < size → (stride < first) × (seen_from s left upper (negsuc 0) (negsuc 0) ≡ slice_index rows (first - stride - 1))
  corner_at some_left some_upper some = grind (arith, ints, row_above)

  pub seen : 0 < size → IsSeen (seen_from s left upper) sides size first stride rows
  seen some = grind (arith, is_below, above_at, left_at, corner_at, stride_wide pad s.width)

  pub seen4x4 : size ≡ 4 → IsSeen4x4 (seen_from s left upper) sides first stride rows
  seen4x4 four = grind (arith, seen, is_below, above_at)

  -- what is laid from there is the prediction
  pub laid : 0 < size → (can : Bool) (of : ℕ → ℕ → ℕ) (new : List ℕ) → can ≡ true
      → (IsSeen (seen_from s left upper) sides size first stride rows → IsStridedSet size size first stride of rows new)
      → with_rows pad s new ≡ with_block s left upper size size (λ x y. unwrap_or (if can then Some (of x y) else None) 0)
  laid some can of new there set =
      block_lent pad s left upper size size first stride rows have columns lines is_first is_stride of new (set (seen some))
      ∙ with_block_same s left upper size size of (λ x y. unwrap_or (if can then Some (of x y) else None) 0) (λ x y column row. sym (predicted can (of x y) there))
