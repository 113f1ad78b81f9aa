-- What an intra prediction reads, and the macroblocks from which one is built.
pub mod BuiltBlocks
unfoldable pub use BuiltBlocks.*
use Rattle.avc_intra.specs.declared.luma16x16.Mode16x16.TheVariants as of16x16
use Rattle.avc_intra.specs.declared.chroma.ModeChroma.TheVariants as of_chroma

-- ---- an intra prediction reads no sample but those of the sides that are available

-- The sample at this place is beside a block of `size` columns and rows, on a side that is available.
abbrev pub is_beside : (size : ℕ) → Sides → ℤ → ℤ → Bool
is_beside size s (pos x) (pos y) = false
is_beside size s (pos x) (negsuc y) = (y == 0) && (if nat_lt x size then s.above else (nat_lt x 8 && s.above_right))
is_beside size s (negsuc x) (pos y) = (x == 0) && (nat_lt y size && s.left)
is_beside size s (negsuc x) (negsuc y) = (x == 0) && ((y == 0) && s.corner)

-- without all other samples
abbrev beside : ℕ → Sides → Around → Around
beside size s p x y = if is_beside size s x y then p x y else 0

-- ---- the predictions from what is beside the block

abbrev sides : (above right left corner : Bool) → Sides
sides a r l c = record { above = a; above_right = r; left = l; corner = c }

abbrev IsSame4x4 : Sides → Around → Mode4x4 → Type 0
IsSame4x4 s p mode = block4x4 (predict4x4 s (extended s (beside 4 s p)) mode) ≡ block4x4 (predict4x4 s (extended s p) mode)

-- what the three sides that meet at the corner are for a prediction that needs them
pub with_corner : (P : (a l c : Bool) → Type 0) (a l c : Bool) → (a && l && c) ≡ true → P true true true → P a l c
with_corner P true true true can holds = holds
with_corner P a l c can holds = absurd cc

all4x4 : (a r l c : Bool) (p : Around) (mode : Mode4x4) → can_predict4x4 (sides a r l c) mode ≡ true → IsSame4x4 (sides a r l c) p mode
all4x4 true r l c p Vertical can = refl
all4x4 a r true c p Horizontal can = refl
all4x4 true r true c p Dc can = refl
all4x4 true r false c p Dc can = refl
all4x4 false r true c p Dc can = refl
all4x4 false r false c p Dc can = refl
all4x4 true true l c p DiagonalDownLeft can = refl
all4x4 true false l c p DiagonalDownLeft can = refl
all4x4 a r l c p DiagonalDownRight can = with_corner (λ a l c. IsSame4x4 (sides a r l c) p DiagonalDownRight) a l c can refl
all4x4 a r l c p VerticalRight can = with_corner (λ a l c. IsSame4x4 (sides a r l c) p VerticalRight) a l c can refl
all4x4 a r l c p HorizontalDown can = with_corner (λ a l c. IsSame4x4 (sides a r l c) p HorizontalDown) a l c can refl
all4x4 true true l c p VerticalLeft can = refl
all4x4 true false l c p VerticalLeft can = refl
all4x4 a r true c p HorizontalUp can = refl
all4x4 a r l c p mode can = absurd cc

abbrev IsSame16x16 : Sides → Around → Mode16x16 → ℕ → ℕ → Type 0
IsSame16x16 s p mode x y = predict16x16 s (beside 16 s p) mode x y ≡ predict16x16 s p mode x y

test : (x n : ℕ) → x < n → nat_lt x n ≡ true
test x n low = grind (arith, nat_tests)

all16x16 : (a r l c : Bool) (p : Around) (mode : Mode16x16) → can_predict16x16 (sides a r l c) mode ≡ true → (x y : ℕ) → x < 16 → y < 16
    → IsSame16x16 (sides a r l c) p mode x y
all16x16 true r l c p of16x16.Vertical can x y low high = rw (test x 16 low) refl
all16x16 a r true c p of16x16.Horizontal can x y low high = rw (test y 16 high) refl
all16x16 true r true c p of16x16.Dc can x y low high = refl
all16x16 true r false c p of16x16.Dc can x y low high = refl
all16x16 false r true c p of16x16.Dc can x y low high = refl
all16x16 false r false c p of16x16.Dc can x y low high = refl
all16x16 a r l c p of16x16.Plane can x y low high = with_corner (λ a l c. IsSame16x16 (sides a r l c) p of16x16.Plane x y) a l c can refl
all16x16 a r l c p mode can x y low high = absurd cc

abbrev IsSameChroma : Sides → Around → ModeChroma → ℕ → ℕ → Type 0
IsSameChroma s p mode x y = predict_chroma s (beside 8 s p) mode x y ≡ predict_chroma s p mode x y

abbrev IsSameDc : Sides → Around → ℕ → ℕ → Type 0
IsSameDc s p u v = predict_dc_chroma s (beside 8 s p) u v ≡ predict_dc_chroma s p u v

dc_at : (a r l c : Bool) (p : Around)
    → IsSameDc (sides a r l c) p 0 0 × IsSameDc (sides a r l c) p 1 0 × IsSameDc (sides a r l c) p 0 1 × IsSameDc (sides a r l c) p 1 1
dc_at true r true c p = (refl, refl, refl, refl)
dc_at true r false c p = (refl, refl, refl, refl)
dc_at false r true c p = (refl, refl, refl, refl)
dc_at false r false c p = (refl, refl, refl, refl)

dc_chroma : (a r l c : Bool) (p : Around) (u v : ℕ) → u < 2 → v < 2
    → IsSameDc (sides a r l c) p u v
dc_chroma a r l c p u v across down =
    below_two (λ v. IsSameDc (sides a r l c) p u v)
    (below_two (λ u. IsSameDc (sides a r l c) p u 0) (dc_at a r l c p).0 (dc_at a r l c p).1 u across)
    (below_two (λ u. IsSameDc (sides a r l c) p u 1) (dc_at a r l c p).2 (dc_at a r l c p).3 u across) v down

all_chroma : (a r l c : Bool) (p : Around) (mode : ModeChroma) → can_predict_chroma (sides a r l c) mode ≡ true → (x y : ℕ) → x < 8 → y < 8
    → IsSameChroma (sides a r l c) p mode x y
all_chroma a r l c p of_chroma.Dc can x y low high = dc_chroma a r l c p (x / 4) (y / 4) (omega (arith, low)) (omega (arith, high))
all_chroma a r true c p of_chroma.Horizontal can x y low high = rw (test y 8 high) refl
all_chroma true r l c p of_chroma.Vertical can x y low high = rw (test x 8 low) refl
all_chroma a r l c p of_chroma.Plane can x y low high = with_corner (λ a l c. IsSameChroma (sides a r l c) p of_chroma.Plane x y) a l c can refl
all_chroma a r l c p mode can x y low high = absurd cc

-- ---- where two pictures agree beside the block

-- what holds on each side that is available holds beside the block
pub on_each_side : (size : ℕ) (s : Sides) (P : ℤ → ℤ → Type 0) → ((x : ℕ) → x < size → s.above ≡ true → P (pos x) (negsuc 0))
    → ((x : ℕ) → size ≤ x → x < 8 → s.above_right ≡ true → P (pos x) (negsuc 0)) → ((y : ℕ) → y < size → s.left ≡ true → P (negsuc 0) (pos y))
    → (s.corner ≡ true → P (negsuc 0) (negsuc 0)) → (x y : ℤ) → is_beside size s x y ≡ true → P x y
on_each_side size s P above right left corner (pos x) (negsuc zero) is = grind (arith, nat_tests, test, nat_lt, and_parts, ltb-true, cases_lt)
on_each_side size s P above right left corner (negsuc zero) (pos y) is = grind (arith, nat_tests, and_parts, nat_lt, ltb-true)
on_each_side size s P above right left corner (negsuc zero) (negsuc zero) is = corner is
on_each_side size s P above right left corner x y is = absurd (grind (arith, nat_tests, and_parts))

abbrev pub AgreeBeside : (size : ℕ) → Sides → (p q : Around) → Type 0
AgreeBeside size s p q = (x y : ℤ) → is_beside size s x y ≡ true → p x y ≡ q x y

module _ (size : ℕ) (s : Sides) (p q : Around) (agree : AgreeBeside size s p q) where
  same_beside : beside size s p ≡ beside size s q
  same_beside = fun_ext (λ x. fun_ext (λ y. grind (arith, nat_tests, agree x y)))

if_can : (can : Bool) (u v : ℕ) → (can ≡ true → u ≡ v) → (if can then Some u else None) ≡ (if can then Some v else None)
if_can true u v same = ap (λ n. Some n) (same refl)
if_can false u v same = refl

pub agree4x4 : (s : Sides) (p q : Around) → AgreeBeside 4 s p q → (mode : Mode4x4) (x y : ℕ) → x < 4 → y < 4
    → intra4x4 s p mode x y ≡ intra4x4 s q mode x y
agree4x4 s p q agree mode x y low high =
    if_can (can_predict4x4 s mode) (predict4x4 s (extended s p) mode x y) (predict4x4 s (extended s q) mode x y)
    (λ can. cc (
      sample4x4 (predict4x4 s (extended s p) mode) x y low high,
      sample4x4 (predict4x4 s (extended s q) mode) x y low high,
      all4x4 s.above s.above_right s.left s.corner p mode can,
      all4x4 s.above s.above_right s.left s.corner q mode can,
      same_beside 4 s p q agree,
    ))

pub agree16x16 : (s : Sides) (p q : Around) → AgreeBeside 16 s p q → (mode : Mode16x16) (x y : ℕ) → x < 16 → y < 16
    → intra16x16 s p mode x y ≡ intra16x16 s q mode x y
agree16x16 s p q agree mode x y low high =
    if_can (can_predict16x16 s mode) (predict16x16 s p mode x y) (predict16x16 s q mode x y)
    (λ can.
    sym (all16x16 s.above s.above_right s.left s.corner p mode can x y low high)
    ∙ ap (λ t. predict16x16 s t mode x y) (same_beside 16 s p q agree)
    ∙ all16x16 s.above s.above_right s.left s.corner q mode can x y low high)

pub agree_chroma : (s : Sides) (p q : Around) → AgreeBeside 8 s p q → (mode : ModeChroma) (x y : ℕ) → x < 8 → y < 8
    → intra_chroma s p mode x y ≡ intra_chroma s q mode x y
agree_chroma s p q agree mode x y low high = grind (arith, nat_tests, all_chroma, same_beside)

-- ---- what an intra prediction reads lies at most one row above its block

-- the planes have the same samples from row n on
abbrev pub AgreeFrom : ℕ → Plane → Plane → Type 0
AgreeFrom n s t = (x y : ℕ) → n ≤ y → sample t x y ≡ sample s x y

-- ---- the samples of a macroblock

-- block n of an I_NxN macroblock, from the samples before it
abbrev pub block_from : Place → ℕ → Plane → ℕ → ℕ → ℕ
block_from p n s x y =
    sum_of
    (unwrap_or (intra4x4 (sides_of p.coded p.address n) (seen_from s (left_of_mb p 0 + block_x n) (top_of_mb p 0 + block_y n))
    (mode4x4_of (mode_number (slice_index_or p.modes n absent))) x y) 0)
    (residual_at p 0 (block_x n + x) (block_y n + y))

-- an Intra 16x16 macroblock, likewise
abbrev pub luma_from : Place → ℕ → Plane → ℕ → ℕ → ℕ
luma_from p m s x y =
    sum_of
    (unwrap_or (intra16x16 (sides_of p.coded p.address 0) (seen_from s (left_of_mb p 0) (top_of_mb p 0)) (mode16x16_of m) x y) 0)
    (residual_at p 0 x y)

-- a chroma component of an intra macroblock, likewise
abbrev pub chroma_from : Place → ℕ → ℕ → Plane → ℕ → ℕ → ℕ
chroma_from p m k s x y =
    sum_of
    (unwrap_or (intra_chroma (sides_of p.coded p.address 0) (seen_from s (left_of_mb p k) (top_of_mb p k)) (mode_chroma_of m) x y) 0)
    (residual_at p k x y)

module _ (n : ℕ) (s t : Plane) (agree : AgreeFrom n s t) (p : Place) where
  agree_beside : (size left top : ℕ) (sides : Sides) → n < top → AgreeBeside size sides (seen_from t left top) (seen_from s left top)
  agree_beside size left top sides below = grind (arith, on_each_side)

  pub block_same : n < top_of_mb p 0 → (k x y : ℕ) → x < 4 → y < 4 → block_from p k t x y ≡ block_from p k s x y
  block_same below k x y h v = grind (arith, agree4x4, agree_beside)

  pub luma_same : n < top_of_mb p 0 → (m x y : ℕ) → x < 16 → y < 16 → luma_from p m t x y ≡ luma_from p m s x y
  luma_same below m x y h v = grind (arith, agree16x16, agree_beside)

  pub chroma_same : (k : ℕ) → n < top_of_mb p k → (m x y : ℕ) → x < 8 → y < 8 → chroma_from p m k t x y ≡ chroma_from p m k s x y
  chroma_same k below m x y h v = grind (arith, agree_chroma, agree_beside)

-- ---- a macroblock's place on a canvas, as the code knows it: what its blocks may read, and what was built of it: what its blocks may read

-- one sample, by the neighbour that covers it
readable_as : (constrained : Bool) (n : MacroblocksAround) (k : ℕ) (x y : ℤ)
    → is_there_near (λ f. not constrained || is_intra_info f) (λ u v. nat_lt (block_at u v) k) n x y ≡ is_readable (readable_near constrained n) k x y
readable_as constrained n k (pos x) (pos y) = refl
readable_as constrained n k (negsuc x) (pos y) = refl
readable_as constrained n k x y = refl

sides_same : (s t : Sides) → s.above ≡ t.above → s.above_right ≡ t.above_right → s.left ≡ t.left → s.corner ≡ t.corner → s ≡ t
sides_same s t above right left corner = grind arith

pub near_readable : (constrained : Bool) (n : MacroblocksAround) (k : ℕ) → sides_near constrained n k ≡ readable_sides (readable_near constrained n) k
near_readable constrained n k = grind (arith, ints, pos, sides_same, readable_as)

-- ---- and that it lies in the picture

-- off the left, the upper and the right edge
left_off : (width : ℕ) (x y : ℤ) → x ≡ negsuc 0 → location_in 16 width x y ≡ None
left_off width x y e = ap (λ t. location_in 16 width t y) e

up_off : (width : ℕ) (x y : ℤ) → y ≡ negsuc 0 → location_in 16 width x y ≡ None
up_off width (pos x) y e = ap (λ t. location_in 16 width (pos x) t) e
up_off width (negsuc x) y e = refl

right_off : (width n : ℕ) (x y : ℤ) → x ≡ pos n → 16 * width ≤ n → location_in 16 width x y ≡ None
right_off width n x (pos y) e off = let t : nat_lt n (16 * width) ≡ false = le-ltb _ _ off in rw (e, t) refl
right_off width n x (negsuc y) e off = rw e refl

-- what is there is not off the picture
on_picture : (c : Coded) (a k : ℕ) (l : Option Location) → is_there c a k l ≡ true → l ≡ None → ⊥
on_picture c a k l there off = true≢false (sym there ∙ ap (is_there c a k) off)

pub sides_inside : (c : Coded) (a k : ℕ) → AreInside (16 * (a % c.width) + block_x k) (16 * (a / c.width) + block_y k) (16 * c.width) (sides_of c a k)
sides_inside c a k = grind (arith, ints, pos, cases_lt, on_picture, up_off, left_off, right_off)

-- the same under other words
inside_as : (c : Coded) (width address here k : ℕ) (s : Sides) → c.width ≡ width → here ≡ address → sides_of c here k ≡ s
    → AreInside (16 * (address % width) + block_x k) (16 * (address / width) + block_y k) (16 * width) s
inside_as c width address here k s wide at are =
    let in_plane = λ (w a : ℕ) (t : Sides). AreInside (16 * (a % w) + block_x k) (16 * (a / w) + block_y k) (16 * w) t in
    subst (in_plane width address) are
    (subst (λ w. in_plane w address (sides_of c here k)) wide (subst (λ a. in_plane c.width a (sides_of c here k)) at (sides_inside c here k)))

-- ---- all of it

module _ {PAD : ℕ} (canvas : CanvasState) (address qp_of_chroma : ℕ) (mb : Mb) (info : NeighbourInfo) (n : MacroblocksAround) (r : ReadableNeighbours)
    (references : List (Option (ReferencePicture PAD))) (p : Place) (on : IsPlaceOn canvas address mb info n references p) where
  -- what its blocks may read
  place_reads : is_intra mb.syntax ≡ true → r ≡ readable_near canvas.constrained_intra_pred n → MayRead (address % canvas.width) (address / canvas.width) (16 * canvas.width) r p
  place_reads intra near =
      let are : (k : ℕ) → k < 16 → sides_of p.coded p.address k ≡ readable_sides r k =
      λ k few. on.sides intra k few ∙ near_readable canvas.constrained_intra_pred n k ∙ ap (λ t. readable_sides t k) (sym near) in
      record { sides = are; inside = λ k few. inside_as p.coded canvas.width address p.address k (readable_sides r k) on.width on.address_is (are k few) }

  place_in : qp_of_chroma ≡ chroma_qp canvas.chroma_qp_index_offset mb.qp → (is_intra mb.syntax ≡ true → r ≡ readable_near canvas.constrained_intra_pred n)
      → IsPlaceIn (address % canvas.width) (address / canvas.width) canvas.width canvas.height mb.syntax mb.qp qp_of_chroma info r references p
  place_in chroma near = record {
    at = record {
      column_is = ap (λ a. a % p.coded.width) on.address_is ∙ ap (λ w. address % w) on.width;
      row_is = ap (λ a. a / p.coded.width) on.address_is ∙ ap (λ w. address / w) on.width;
      syntax_is = ap (λ (m : Mb). m.syntax) on.mb_is;
      qp_is = ap (λ (m : Mb). m.qp) on.mb_is;
      chroma_is = ap (λ o. chroma_qp o p.mb.qp) on.offset ∙ ap (λ (m : Mb). chroma_qp canvas.chroma_qp_index_offset m.qp) on.mb_is ∙ sym chroma;
    };
    may_read = λ intra. place_reads intra (near intra);
    width_is = on.width;
    height_is = on.height;
    modes_are = on.modes;
    motion_is = on.motion;
    references_are = on.references_are;
  }

  module _ (column row : ℕ) (narrow : column < canvas.width) (at : address ≡ row * canvas.width + column)
      (chroma : qp_of_chroma ≡ chroma_qp canvas.chroma_qp_index_offset mb.qp) (near : is_intra mb.syntax ≡ true → r ≡ readable_near canvas.constrained_intra_pred n) where
    place_at : IsPlaceIn column row canvas.width canvas.height mb.syntax mb.qp qp_of_chroma info r references p
    place_at =
        let column_is : address % canvas.width ≡ column = ap (λ a. a % canvas.width) at ∙ mod-mul-add row canvas.width column narrow in
        let row_is : address / canvas.width ≡ row = ap (λ a. a / canvas.width) at ∙ div-mul-add row canvas.width column narrow in
        rw (column_is, row_is) at (place_in chroma near)

    -- the planes of a canvas that is else as it was
    pub canvas_built : (result : Result (Unit {0}) Fault) (new : Planes)
        → (IsPlaceIn column row canvas.width canvas.height mb.syntax mb.qp qp_of_chroma info r references p → ArePlanesBuilt p result canvas.planes new)
        → IsBuilt p result canvas (record canvas { planes = new })
    canvas_built (Ok done) new built = let all = built place_at in (all.0, ap (λ s. record canvas { planes = s }) all.1)
    canvas_built (Err f) new built = built place_at

-- ---- a macroblock whose neighbours have samples: its blocks have the sides that any mode needs

each_mode : (right : Bool) (mode : Mode4x4) → can_predict4x4 (record { above = true; above_right = right; left = true; corner = true }) mode ≡ true
each_mode right Vertical = refl
each_mode right mode = refl

pub surrounded : (r : ReadableNeighbours) → (r.a && r.b && r.d) ≡ true → (mode : Mode4x4) (k : ℕ) → k < 16 → can_predict4x4 (readable_sides r k) mode ≡ true
surrounded r e mode k low = grind (arith, ints, nat_tests, and_parts, each_mode)

-- ---- a macroblock is built from the samples of macroblocks before it: planes that agree on these agree on it too

-- ---- two planes of a size that agree where P holds

pub record Agree (w h : ℕ) (P : ℕ → ℕ → Type 0) (s t : Plane) : Type 0 where
  pub width : s.width ≡ w
  pub height : s.height ≡ h
  pub other_width : t.width ≡ w
  pub other_height : t.height ≡ h
  pub samples : (x y : ℕ) → x < w → y < h → P x y → sample s x y ≡ sample t x y

module _ (w h : ℕ) (P Q : ℕ → ℕ → Type 0) (s t : Plane) (agree : Agree w h P s t) where
  pub agree_less : ((x y : ℕ) → x < w → y < h → Q x y → P x y) → Agree w h Q s t
  agree_less less = grind arith

  -- a block more
  pub agree_more : (left top bw bh : ℕ) (f g : ℕ → ℕ → ℕ) → ((x y : ℕ) → x < bw → y < bh → f x y ≡ g x y)
      → ((x y : ℕ) → x < w → y < h → Q x y → (left ≤ x → x < left + bw → top ≤ y → y < top + bh → ⊥) → P x y)
      → Agree w h Q (with_block s left top bw bh f) (with_block t left top bw bh g)
  agree_more left top bw bh f g same other = grind (arith, nat_tests, sample-with_block, by_place)

-- ---- what comes before

-- the address of the macroblock that covers a sample, where a macroblock has so many of the component on a side (6.4.1)
abbrev pub address_at : (size width x y : ℕ) → ℕ
address_at size width x y = (y / size) * width + x / size

pub address_in : (size width column row i j : ℕ) → i < size → j < size → address_at size width (column * size + i) (row * size + j) ≡ row * width + column
address_in size width column row i j low high = grind (arith, ints, nat_tests, width, div-mul-add)

-- the luma sample is of a macroblock before a, or of a block before block k of it
abbrev pub IsEarlier : (width a k x y : ℕ) → Type 0
IsEarlier width a k x y = (address_at 16 width x y < a) ⊎ ((address_at 16 width x y ≡ a) × (block_at (x % 16) (y % 16) < k))

-- the block that covers a sample, from the number of 4x4 blocks before it
block_by : (u v : ℕ) → block_at u v ≡ 8 * (v / 4 / 2) + 4 * (u / 4 / 2) + 2 * ((v / 4) % 2) + (u / 4) % 2
block_by u v = omega arith

same_quarter : (x u : ℕ) → x / 4 ≡ u / 4 → (x % 16) / 4 ≡ (u % 16) / 4
same_quarter x u e = omega (arith, e)

same_block : (x y u v : ℕ) → x / 4 ≡ u / 4 → y / 4 ≡ v / 4 → block_at (x % 16) (y % 16) ≡ block_at (u % 16) (v % 16)
same_block x y u v e f = grind (arith, ints, nat_tests, block_by, same_quarter)

same_address : (width x y u v : ℕ) → x / 4 ≡ u / 4 → y / 4 ≡ v / 4 → address_at 16 width x y ≡ address_at 16 width u v
same_address width x y u v e f = grind (arith, ints, nat_tests, width)

-- samples of one 4x4 block come together
together : (width a k x y u v : ℕ) → x / 4 ≡ u / 4 → y / 4 ≡ v / 4 → IsEarlier width a k u v → IsEarlier width a k x y
together width a k x y u v e f earlier = grind (arith, ints, nat_tests, same_address, width, same_block)

-- ---- what is there comes before

eqb-eq : (m n : ℕ) → (m == n) ≡ true → m ≡ n
eqb-eq m n e = grind (arith, nat_tests)

module _ (c : Coded) (a k : ℕ) where
  there_of : (inside : Bool) (l : Location) → is_there c a k (if inside then Some l else None) ≡ true
      → (inside ≡ true) × ((l.address < a) ⊎ ((l.address ≡ a) × (block_at l.x l.y < k)))
  there_of false l there = absurd cc
  there_of true l there = grind (arith, nat_tests, and_parts, or_cases, ltb-true, eqb-eq)

  there_earlier : (x y : ℕ) (px py : ℤ) → px ≡ pos x → py ≡ pos y → is_there c a k (location_in 16 c.width px py) ≡ true
      → (x < 16 * c.width) × IsEarlier c.width a k x y
  there_earlier x y px py e f there = grind (arith, ints, nat_tests, pos, there_of, nat_lt, ltb-true)

-- ---- a 4x4 block

inner : (k : ℕ) → k < 16 → (block_x k < 16) × (block_y k < 16)
inner k low = (omega (arith, low), omega (arith, low))

module _ (c : Coded) (h a k : ℕ) (some : 0 < c.width) (room : a / c.width < h) (low : k < 16) (s t : Plane)
    (agree : Agree (16 * c.width) (16 * h) (IsEarlier c.width a k) s t) where
  abbrev m : ℕ
  m = a % c.width

  abbrev r : ℕ
  r = a / c.width

  abbrev left : ℕ
  left = 16 * m + block_x k

  abbrev top : ℕ
  top = 16 * r + block_y k

  narrow : m < c.width
  narrow = mod_below a c.width some

  read : (x y u v : ℕ) (p q : ℤ) → nat_abs (pos left +ℤ p) ≡ x → nat_abs (pos top +ℤ q) ≡ y → x < 16 * c.width → y < 16 * h
      → x / 4 ≡ u / 4 → y / 4 ≡ v / 4 → IsEarlier c.width a k u v → seen_from s left top p q ≡ seen_from t left top p q
  read x y u v p q e f column row i j earlier =
      let at : (o : Plane) → seen_from o left top p q ≡ sample o x y = λ o. ap (λ m. sample o m (nat_abs (pos top +ℤ q))) e ∙ ap (sample o x) f in
      at s ∙ agree.samples x y column row (together c.width a k x y u v i j earlier) ∙ sym (at t)

  beside4x4 : AgreeBeside 4 (sides_of c a k) (seen_from s left top) (seen_from t left top)
  beside4x4 =
      let inside = sides_inside c a k in
      on_each_side 4 (sides_of c a k) (λ u v. seen_from s left top u v ≡ seen_from t left top u v)
      (λ x near there.
      let high = inside.above there in
      let earlier = there_earlier c a k left (top - 1) (pos (16 * m) +ℤ pos (block_x k)) (pos (16 * r) +ℤ (pos (block_y k) -ℤ pos 1)) (omega (arith, ints)) (omega (arith, ints)) there in
      read (left + x) (top - 1) left (top - 1) (pos x) (negsuc 0) (omega (arith, ints)) (omega (arith, ints)) (omega (arith, narrow, (inner k low).0)) (omega (arith, (inner k low).1)) (omega arith) refl earlier.1)
      (λ x far end there.
      let high = inside.above_right there in
      let earlier = there_earlier c a k (left + 4) (top - 1) (pos (16 * m) +ℤ (pos (block_x k) +ℤ pos 4)) (pos (16 * r) +ℤ (pos (block_y k) -ℤ pos 1)) (omega (arith, ints)) (omega (arith, ints, high.0)) there in
      read (left + x) (top - 1) (left + 4) (top - 1) (pos x) (negsuc 0) (omega (arith, ints)) (omega (arith, ints, high.0)) (omega (arith, high.1)) (omega (arith, (inner k low).1)) (omega arith) refl earlier.1)
      (λ y near there.
      let wide = inside.before there in
      let earlier = there_earlier c a k (left - 1) top (pos (16 * m) +ℤ (pos (block_x k) -ℤ pos 1)) (pos (16 * r) +ℤ pos (block_y k)) (omega (arith, ints)) (omega (arith, ints)) there in
      read (left - 1) (top + y) (left - 1) top (negsuc 0) (pos y) (omega (arith, ints)) (omega (arith, ints)) (omega (arith, narrow, (inner k low).0)) (omega (arith, (inner k low).1)) refl (omega arith) earlier.1)
      (λ there.
      let both = inside.corner there in
      let earlier = there_earlier c a k (left - 1) (top - 1) (pos (16 * m) +ℤ (pos (block_x k) -ℤ pos 1)) (pos (16 * r) +ℤ (pos (block_y k) -ℤ pos 1)) (omega (arith, ints, both.0)) (omega (arith, ints, both.1)) there in
      read (left - 1) (top - 1) (left - 1) (top - 1) (negsuc 0) (negsuc 0) (omega (arith, ints, both.0)) (omega (arith, ints, both.1)) (omega (arith, narrow, (inner k low).0)) (omega (arith, (inner k low).1))
      refl refl earlier.1)

-- the block built from either
pub block_agrees : (p : Place) (h k : ℕ) → 0 < p.coded.width → p.address / p.coded.width < h → k < 16 → (s t : Plane)
    → Agree (16 * p.coded.width) (16 * h) (IsEarlier p.coded.width p.address k) s t → (x y : ℕ) → x < 4 → y < 4 → block_from p k s x y ≡ block_from p k t x y
block_agrees p h k some room low s t agree x y column row =
    rw (agree4x4 (sides_of p.coded p.address k) _ _ (beside4x4 p.coded h p.address k some room low s t agree)
    (mode4x4_of (mode_number (slice_index_or p.modes k absent))) x y column row)
    refl

-- ---- a whole macroblock

less_in : (size n i j : ℕ) → j < n → i < size → size * j + i < size * n
less_in size n i j below low = let e : size * j + size ≤ size * n = omega (arith, mul-le-mul_right size below, mul_comm size j, mul_comm size n) in omega (arith, e, low)

module _ (c : Coded) (size h a : ℕ) (big : 8 ≤ size) (some : 0 < c.width) (room : a / c.width < h) where
  abbrev column : ℕ
  column = a % c.width

  abbrev row : ℕ
  row = a / c.width

  within_size : column < c.width
  within_size = mod_below a c.width some

  whole : row * c.width + column ≡ a
  whole = div-add-mod' a c.width

  -- a sample of the macroblock at this address is inside its square
  pub in_square : (x y : ℕ) → x < size * c.width → address_at size c.width x y ≡ a
      → (size * column ≤ x) × (x < size * column + size) × (size * row ≤ y) × (y < size * row + size)
  in_square x y inside at = grind (arith, ints, nat_tests, narrow, div-lt_iff_lt-mul, mul_comm, div-mul-add, mod-mul-add, div-add-mod', mod_below)

  module _ (s t : Plane) (agree : Agree (size * c.width) (size * h) (λ x y. address_at size c.width x y < a) s t) where
    read_mb : (u v i j : ℕ) (p q : ℤ) → nat_abs (pos (size * column) +ℤ p) ≡ size * u + i → nat_abs (pos (size * row) +ℤ q) ≡ size * v + j
        → u < c.width → v < h → i < size → j < size → v * c.width + u < a
        → seen_from s (size * column) (size * row) p q ≡ seen_from t (size * column) (size * row) p q
    read_mb u v i j p q e f narrow low across down earlier =
        let x = size * u + i in
        let y = size * v + j in
        let at : (o : Plane) → seen_from o (size * column) (size * row) p q ≡ sample o x y =
        λ o. ap (λ m. sample o m (nat_abs (pos (size * row) +ℤ q))) e ∙ ap (sample o x) f in
        let address_is : address_at size c.width x y ≡ v * c.width + u =
        ap (λ m. address_at size c.width (m + i) y) (mul_comm size u) ∙ ap (λ m. address_at size c.width (u * size + i) (m + j)) (mul_comm size v)
        ∙ address_in size c.width u v i j across down in
        at s ∙ agree.samples x y (less_in size c.width i u narrow across) (less_in size h j v low down) (subst (λ m. m < a) (sym address_is) earlier) ∙ sym (at t)

    before : (n : ℕ) → 0 < n → size * n ≡ size * (n - 1) + size
    before n more = ap (λ k. size * k) (omega (arith, more)) ∙ mul-add size (n - 1) 1 ∙ omega arith

    above_is : 0 < row → (row - 1) * c.width + c.width ≡ row * c.width
    above_is more = sym (ap (λ k. k * c.width) (omega (arith, more)) ∙ add-mul (row - 1) 1 c.width ∙ omega arith)

    beside_mb : AgreeBeside size (sides_of c a 0) (seen_from s (size * column) (size * row)) (seen_from t (size * column) (size * row))
    beside_mb =
        let inside = sides_inside c a 0 in
        on_each_side size (sides_of c a 0) (λ u v. seen_from s (size * column) (size * row) u v ≡ seen_from t (size * column) (size * row) u v)
        (λ x near there.
        let high = inside.above there in
        let some_row : 0 < row = omega (arith, high) in
        read_mb column (row - 1) x (size - 1) (pos x) (negsuc 0) refl (omega (arith, ints, before row some_row)) within_size (omega arith) near (omega arith) (omega (arith, above_is some_row, whole)))
        (λ x far end there. absurd (omega arith))
        (λ y near there.
        let wide = inside.before there in
        let some_column : 0 < column = omega (arith, wide) in
        read_mb (column - 1) row (size - 1) y (negsuc 0) (pos y) (omega (arith, ints, before column some_column)) refl (omega (arith, within_size)) room (omega arith) near (omega (arith, whole)))
        (λ there.
        let both = inside.corner there in
        let some_column : 0 < column = omega (arith, both.0) in
        let some_row : 0 < row = omega (arith, both.1) in
        read_mb (column - 1) (row - 1) (size - 1) (size - 1) (negsuc 0) (negsuc 0) (omega (arith, ints, before column some_column)) (omega (arith, ints, before row some_row))
        (omega (arith, within_size)) (omega arith) (omega arith) (omega arith) (omega (arith, above_is some_row, whole)))

    -- a square that is built of either
    pub square_more : (f g : ℕ → ℕ → ℕ) → ((x y : ℕ) → x < size → y < size → f x y ≡ g x y)
        → Agree (size * c.width) (size * h) (λ x y. address_at size c.width x y < suc a)
        (with_block s (size * column) (size * row) size size f) (with_block t (size * column) (size * row) size size g)
    square_more f g same =
        agree_more (size * c.width) (size * h) (λ x y. address_at size c.width x y < a) (λ x y. address_at size c.width x y < suc a) s t agree (size * column) (size * row) size size f g same
        (λ x y inside low less out. grind (arith, in_square x y inside, cases_lt (address_at size c.width x y) a, out))

-- ---- the luma blocks of a macroblock, one after another

module _ (p : Place) (h : ℕ) (some : 0 < p.coded.width) (room : p.address / p.coded.width < h) (s t : Plane)
    (agree : Agree (16 * p.coded.width) (16 * h) (λ x y. address_at 16 p.coded.width x y < p.address) s t) where
  abbrev w : ℕ
  w = p.coded.width

  abbrev a : ℕ
  a = p.address

  in_block : (n x y : ℕ) → x < 16 * w → address_at 16 w x y ≡ a → block_at (x % 16) (y % 16) ≡ n
      → (left_of_mb p 0 + block_x n ≤ x) × (x < left_of_mb p 0 + block_x n + 4) × (top_of_mb p 0 + block_y n ≤ y) × (y < top_of_mb p 0 + block_y n + 4)
  in_block n x y inside at is =
      let square = in_square p.coded 16 h a (omega arith) some room x y inside at in
      let places = luma_block_place (x % 16) (y % 16) (omega arith) (omega arith) in
      let across : block_x n ≡ 4 * ((x % 16) / 4) = ap block_x (sym is) ∙ places.0 in
      let down : block_y n ≡ 4 * ((y % 16) / 4) = ap block_y (sym is) ∙ places.1 in
      (omega (arith, across, square.0, square.1), omega (arith, across, square.0, square.1), omega (arith, down, square.2, square.3), omega (arith, down, square.2, square.3))

  blocks_agree : (n : ℕ) → n ≤ 16 → Agree (16 * w) (16 * h) (IsEarlier w a n) (with_blocks4x4 p n s) (with_blocks4x4 p n t)
  blocks_agree zero few = grind (arith, ints, nat_tests, agree_less)
  blocks_agree (suc n) few =
      let so_far = blocks_agree n (omega (arith, few)) in
      agree_more (16 * w) (16 * h) (IsEarlier w a n) (IsEarlier w a (suc n)) (with_blocks4x4 p n s) (with_blocks4x4 p n t) so_far
      (left_of_mb p 0 + block_x n) (top_of_mb p 0 + block_y n) 4 4 (block_from p n (with_blocks4x4 p n s)) (block_from p n (with_blocks4x4 p n t))
      (block_agrees p h n some room (omega (arith, few)) (with_blocks4x4 p n s) (with_blocks4x4 p n t) so_far)
      (λ x y column row earlier out. grind (arith, in_block n x y column, cases_lt (block_at (x % 16) (y % 16)) n, earlier, out))

  all_blocks_agree : Agree (16 * w) (16 * h) (λ x y. address_at 16 w x y < suc a) (with_blocks4x4 p 16 s) (with_blocks4x4 p 16 t)
  all_blocks_agree = grind (arith, ints, nat_tests, agree_less, blocks_agree 16, cases_lt)

  -- ---- luma and chroma after the macroblock

  pub luma_agrees : (syntax : MbSyntax) → Agree (16 * w) (16 * h) (λ x y. address_at 16 w x y < suc a) (luma_after p syntax s) (luma_after p syntax t)
  luma_agrees (i_pcm luma cb cr) =
      square_more p.coded 16 h a (omega arith) some room s t agree (λ x y. slice_index luma (16 * y + x)) (λ x y. slice_index luma (16 * y + x)) (λ x y column row. refl)
  luma_agrees (i_16x16 m chroma r) =
      square_more p.coded 16 h a (omega arith) some room s t agree (luma_from p m s) (luma_from p m t)
      (λ x y column row.
      ap (λ o. sum_of (unwrap_or o 0) (residual_at p 0 x y))
      (agree16x16 (sides_of p.coded p.address 0) (seen_from s (left_of_mb p 0) (top_of_mb p 0)) (seen_from t (left_of_mb p 0) (top_of_mb p 0))
      (beside_mb p.coded 16 h a (omega arith) some room s t agree) (mode16x16_of m) x y column row))
  luma_agrees (i_nxn modes chroma r) = all_blocks_agree
  luma_agrees syntax = square_more p.coded 16 h a (omega arith) some room s t agree (inter_at p 0) (inter_at p 0) (λ x y column row. refl)

module _ (p : Place) (h k : ℕ) (some : 0 < p.coded.width) (room : p.address / p.coded.width < h) (s t : Plane)
    (agree : Agree (8 * p.coded.width) (8 * h) (λ x y. address_at 8 p.coded.width x y < p.address) s t) where
  abbrev AgreesThen : Plane → Plane → Type 0
  AgreesThen = Agree (8 * p.coded.width) (8 * h) (λ x y. address_at 8 p.coded.width x y < suc p.address)

  intra_agrees : (mode : ℕ) → AgreesThen (with_block s (left_of_mb p (suc k)) (top_of_mb p (suc k)) 8 8 (chroma_from p mode (suc k) s))
      (with_block t (left_of_mb p (suc k)) (top_of_mb p (suc k)) 8 8 (chroma_from p mode (suc k) t))
  intra_agrees mode =
      square_more p.coded 8 h p.address (omega arith) some room s t agree (chroma_from p mode (suc k) s) (chroma_from p mode (suc k) t)
      (λ x y column row.
      ap (λ o. sum_of (unwrap_or o 0) (residual_at p (suc k) x y))
      (agree_chroma (sides_of p.coded p.address 0) (seen_from s (left_of_mb p (suc k)) (top_of_mb p (suc k))) (seen_from t (left_of_mb p (suc k)) (top_of_mb p (suc k)))
      (beside_mb p.coded 8 h p.address (omega arith) some room s t agree) (mode_chroma_of mode) x y column row))

  same_agrees : (f : ℕ → ℕ → ℕ) → AgreesThen (with_block s (left_of_mb p (suc k)) (top_of_mb p (suc k)) 8 8 f) (with_block t (left_of_mb p (suc k)) (top_of_mb p (suc k)) 8 8 f)
  same_agrees f = square_more p.coded 8 h p.address (omega arith) some room s t agree f f (λ x y column row. refl)

  pub chroma_agrees : (syntax : MbSyntax) → AgreesThen (chroma_after p (suc k) syntax s) (chroma_after p (suc k) syntax t)
  chroma_agrees (i_pcm luma cb cr) = same_agrees (λ x y. slice_index (if suc k == 1 then cb else cr) (8 * y + x))
  chroma_agrees (i_16x16 m chroma r) = intra_agrees chroma
  chroma_agrees (i_nxn modes chroma r) = intra_agrees chroma
  chroma_agrees syntax = same_agrees (inter_at p (suc k))

-- ---- the three planes

-- Planes of this size in macroblocks that agree on the macroblocks before address a.
pub record AgreeBefore (width height a : ℕ) (s t : Planes) : Type 0 where
  pub luma : Agree (16 * width) (16 * height) (λ x y. address_at 16 width x y < a) s.luma t.luma
  pub cb : Agree (8 * width) (8 * height) (λ x y. address_at 8 width x y < a) s.cb t.cb
  pub cr : Agree (8 * width) (8 * height) (λ x y. address_at 8 width x y < a) s.cr t.cr

pub planes_agree : (p : Place) (height : ℕ) → 0 < p.coded.width → p.address / p.coded.width < height → (s t : Planes)
    → AgreeBefore p.coded.width height p.address s t → AgreeBefore p.coded.width height (suc p.address) (planes_after p s) (planes_after p t)
planes_agree p height some room s t agree = record {
  luma = luma_agrees p height some room s.luma t.luma agree.luma p.mb.syntax;
  cb = chroma_agrees p height 0 some room s.cb t.cb agree.cb p.mb.syntax;
  cr = chroma_agrees p height 1 some room s.cr t.cr agree.cr p.mb.syntax;
}
