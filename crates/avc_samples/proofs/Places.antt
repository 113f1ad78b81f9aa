-- Places on and about a plane, and a window of sums that moves on.
pub mod Common
unfoldable pub use Common.*

-- ---- places on and about a plane: in sixty-four bits, and in its padded rows

-- a plane as a sample at every place
abbrev pub wide_of : Plane → Wide
wide_of p = clamped p.width p.height (sample p)

-- the rows that a place was found in
pub there_in : {pad w h : ℕ} {p : Plane} {left top : ℤ} (found : Option RowsPlace) (at : RowsPlace) → found ≡ Some at →
    IfSome found (λ at. (rows : List ℕ) → IsSurrounded pad p rows → IsThere (wide_of p) left top w h at.first at.stride rows) →
    (rows : List ℕ) → IsSurrounded pad p rows → IsThere (wide_of p) left top w h at.first at.stride rows
there_in found at is holds = rw is at holds

-- a place that a call sees through its bits, and one further on
pub place_back : (z : ℤ) → IsPlace z → to_z w64 (of_z w64 z) ≡ z
place_back z p = omega (arith, ints, p.low, p.high)

pub still_place : (z : ℤ) → IsPlace z → IsPlace (to_z w64 (of_z w64 z))
still_place z p = rw (place_back z p) p

pub moved_back : (z : ℤ) (i : ℕ) → IsPlace z → i < 2 ^ 16 → to_z w64 (of_z w64 (to_z w64 (of_z w64 z) +ℤ to_z w64 i)) ≡ z +ℤ pos i
moved_back z i p q =
    let low = p.low in
    let high = p.high in
    let first : to_z w64 (of_z w64 z) ≡ z = place_back z p in
    let second : to_z w64 i ≡ pos i = omega (arith, ints) in
    rw (first, second) (omega (arith, ints))

-- a coordinate held inside a width that a call gave, of a place that it saw through its bits
pub held_moved : (u n width : ℕ) (z : ℤ) (i : ℕ) → IsPlace z → i < 2 ^ 16 → n ≡ width →
    u ≡ nat_abs (clip3 (pos 0) (pos n -ℤ pos 1) (to_z w64 (of_z w64 (to_z w64 (of_z w64 z) +ℤ to_z w64 i)))) →
    u ≡ nat_abs (clip3 (pos 0) (pos width -ℤ pos 1) (z +ℤ pos i))
held_moved u n width z i p q same is =
    is ∙ ap (λ v. nat_abs (clip3 (pos 0) (pos n -ℤ pos 1) v)) (moved_back z i p q) ∙ ap (λ m. nat_abs (clip3 (pos 0) (pos m -ℤ pos 1) (z +ℤ pos i))) same

pub same_place : (s : Wide) (u v u' v' : ℤ) → u ≡ u' → v ≡ v' → s u v ≡ s u' v'
same_place s u v u' v' p q = ap (λ z. s z v) p ∙ ap (λ z. s u' z) q

pub moved_sample : (s : Wide) (left top : ℤ) (i j : ℕ) → IsPlace left → IsPlace top →
    s (to_z w64 (of_z w64 left) +ℤ pos i) (to_z w64 (of_z w64 top) +ℤ pos j) ≡ s (left +ℤ pos i) (top +ℤ pos j)
moved_sample s left top i j p q = same_place s _ _ _ _ (ap (λ z. z +ℤ pos i) (place_back left p)) (ap (λ z. z +ℤ pos j) (place_back top q))

-- the padded rows from the place (left, top) of the plane on, which is in column `column` and row `row` of them
module _ (pad : ℕ) (p : Plane) (rows : List ℕ) (all : IsSurrounded pad p rows) (left top : ℤ) (column row columns count : ℕ) (place_left : IsPlace left) (place_top : IsPlace top)
    (is_column : pos column ≡ to_z w64 (of_z w64 left) +ℤ pos pad) (is_row : pos row ≡ to_z w64 (of_z w64 top) +ℤ pos pad)
    (within : column + columns ≤ stride_of pad p.width) (below : row + count ≤ p.height + 2 * pad) where
  abbrev stride : ℕ
  stride = stride_of pad p.width

  pub row_is_there : (j : ℕ) → j < count → row * stride + column + j * stride + columns ≤ length rows
  row_is_there j less =
      omega (arith, all.long, row_fits (row + j) stride (p.height + 2 * pad) stride (omega arith) (omega arith), add-mul row j stride)

  pub sample_there : (i j : ℕ) → i < columns → j < count →
      slice_index rows (row * stride + column + j * stride + i) ≡ wide_of p (left +ℤ pos i) (top +ℤ pos j)
  sample_there i j less under =
      let l = place_back left place_left in
      let t = place_back top place_top in
      ap (λ k. slice_index rows k) (omega (arith, add-mul row j stride))
      ∙ all.near (column + i) (row + j) (omega arith) (omega arith)
      ∙ same_place (wide_of p) (pos (column + i) -ℤ pos pad) (pos (row + j) -ℤ pos pad) (left +ℤ pos i) (top +ℤ pos j) (omega (arith, ints)) (omega (arith, ints))

-- ---- a window of sums

-- a place of the last row or an earlier one
pub by_line : (columns : ℕ) (P : ℕ → Type 0) (y : ℕ) → ((k : ℕ) → k < columns * y → P k) → ((x : ℕ) → x < columns → P (columns * y + x)) → (k : ℕ) → k < columns * (y + 1) → P k
by_line columns P y earlier here k low = ⊎_elim (earlier k) (λ above.
    let e : columns * y + (k - columns * y) ≡ k = omega arith in
    subst P e (here (k - columns * y) (omega (arith, mul_comm columns (y + 1), mul_comm columns y)))) (cases_lt k (columns * y))

-- numbers that were moved are sums
pub sums_left : (n row : ℕ) (old new : List ℤ) → AreSums (16 * (n + 1)) old → row < n →
    ((k : ℕ) → k < 16 * row → slice_index_or new k (pos 0) ≡ slice_index_or old (16 + k) (pos 0)) → ((k : ℕ) → 16 * row ≤ k → slice_index_or new k (pos 0) ≡ slice_index_or old k (pos 0)) →
    AreSums (16 * (row + 1) + 16) new
sums_left n row old new small less moved left k low =
    ⊎_elim (λ before. subst (λ (z : ℤ). IsSum z) (sym (moved k before)) (small (16 + k) (omega arith)))
    (λ behind. subst (λ (z : ℤ). IsSum z) (sym (left k behind)) (small k (omega arith))) (cases_lt k (16 * row))
