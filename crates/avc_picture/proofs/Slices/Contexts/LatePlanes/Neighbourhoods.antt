-- One macroblock more of a picture: its neighbours, its info, and what refuses it.
pub mod Common
unfoldable pub use Common.*
use Rattle.avc_neigh.specs.declared.neighbour_info.Motion.TheVariants.{Absent as absent_motion, Intra as intra_motion, Inter as inter_motion}
use Rattle.std.proofs.lemmas.List.{get_or-map}
use Rattle.avc_types.specs.Pictures.{Frame}
use Rattle.avc_deblock.specs.FilterInfo.{HasMotion}
use Rattle.avc_picture_core.specs.Built.{reference_of}
use Rattle.std.specs.Prelude.{All}
use Rattle.avc_neigh.specs.declared.neighbour_info.Motion.TheVariants as motions
use Rattle.avc_neigh.specs.declared.neighbour_info.NearMode.TheVariants as near_modes

-- ---- what info tells of a picture's macroblocks, over one macroblock more

map_twice : {X Y Z : Type 0} (f : X → Y) (g : Y → Z) (xs : List X) → map (λ x. g (f x)) xs ≡ map g (map f xs)
map_twice f g [] = refl
map_twice f g (x ∷ xs) = ap (λ ys. g (f x) ∷ ys) (map_twice f g xs)

module _ {Y : Type 0} (of_mb : PicMb → Y) (of_info : NeighbourInfo → Y) where
  pub tells_more : (mbs : List PicMb) (info : List NeighbourInfo) (m : PicMb) (f : NeighbourInfo) → slice_get mbs (length info) ≡ Some m
      → of_mb m ≡ of_info f → InfoTell of_mb of_info mbs info → InfoTell of_mb of_info mbs (info ++ f ∷ [])
  tells_more [] info m f is same told = cc
  tells_more (x ∷ mbs) [] m f is same told = (map of_mb mbs, cc)
  tells_more (x ∷ mbs) (g ∷ info) m f is same told =
      let rest = tells_more mbs info m f is same (told.0, ap (drop 1) told.1) in
      (rest.0, cc (told.1, rest.1))

  -- Whatever follows from what they tell, they tell.
  pub tells_mapped : {Z : Type 0} (g : Y → Z) (mbs : List PicMb) (info : List NeighbourInfo) → InfoTell of_mb of_info mbs info
      → InfoTell (λ m. g (of_mb m)) (λ f. g (of_info f)) mbs info
  tells_mapped g mbs info told = (
    map g told.0,
    map_twice of_mb g mbs ∙ ap (map g) told.1 ∙ map-append g (map of_info info) told.0
        ∙ ap (λ ys. ys ++ map g told.0) (sym (map_twice of_info g info)),
  )

  -- They tell all of the first macroblocks.
  pub tells_first : (mbs : List PicMb) (info : List NeighbourInfo) (n : ℕ) → length info ≡ n → InfoTell of_mb of_info mbs info
      → InfoTell of_mb of_info (take n mbs) info
  tells_first mbs info n count told = (
    [],
    sym (take-map of_mb n mbs) ∙ ap (take n) told.1
        ∙ ap (λ k. take k (map of_info info ++ told.0)) (sym count ∙ sym (length-map info of_info))
        ∙ take-append_seam (map of_info info) told.0 ∙ sym (append-nil (map of_info info)),
  )

-- ---- the neighbours of the macroblock that comes next are those that are found by sample coordinates

-- Samples of the macroblock itself are looked up alike.
near_same : (told : NeighbourInfo → Bool) (mine mine' : ℕ → ℕ → Bool) → ((x y : ℕ) → mine x y ≡ mine' x y) → (n : Around) (x y : ℤ)
    → is_there_near told mine n x y ≡ is_there_near told mine' n x y
near_same told mine mine' same n (pos x) (pos y) = ap (λ b. if nat_lt x 16 then b else false) (same x y)
near_same told mine mine' same n x y = refl

and_true : (a b c : Bool) → c ≡ true → (a && (b || c)) ≡ a
and_true true false c e = e
and_true a b c e = refl

module _ (c : Coded) (a : ℕ) (m : PicMb) (is : slice_get c.mbs a ≡ Some m) (row : PictureInfo) (width : row.width ≡ c.width)
    (wide : 0 < c.width) (has : HasNeighbourInfo c a row.info) where
  abbrev near : Around
  near = around row m.slice

  next_there : slice_get c.mbs (next_address row) ≡ Some m
  next_there = ap (λ k. slice_get c.mbs k) has.count ∙ is

  next_is : IsNext c.mbs row m.slice
  next_is = record { wide = subst (λ w. 0 < w) (sym width) wide; slices = has.slices; next = ap (option_map (λ x. x.slice)) next_there }

  around_as : {X : Type 0} (absent : X) (blocks : NeighbourInfo → List X) (known : List (List X)) → map blocks row.info ≡ known
      → AreAround absent blocks near c.mbs c.width known a
  around_as absent blocks known e = grind (arith, ints, blocks_found, next_is)

  pub motion_around : MotionIsAround near c.mbs c.width (motion_before c a) a
  motion_around = around_as motions.Absent (λ f. f.motion) (motion_before c a) has.motion

  pub modes_around : ModesAreAround near c.mbs c.width (modes_before c a) a
  modes_around = around_as near_modes.Absent (λ f. f.modes) (modes_before c a) has.modes

  -- what constrained_intra_pred_flag asks of a macroblock
  abbrev test : Option PicMb → Bool
  test o = not c.constrained_intra_pred || is_intra_place o

  abbrev told : NeighbourInfo → Bool
  told f = not c.constrained_intra_pred || is_intra_info f

  module _ (intra : is_intra m.mb.syntax ≡ true) (k : ℕ) where
    abbrev earlier : ℕ → ℕ → Bool
    earlier x y = nat_lt (block_at x y) k

    there_is : (l : Option Location) → is_there c a k l ≡ is_there_by test earlier c.mbs a l
    there_is None = refl
    there_is (Some s) = refl

    own_is : (u v : ℕ) → (earlier u v && test (slice_get c.mbs (next_address row))) ≡ earlier u v
    own_is u v = grind (arith, ints, next_there, and_true)

    at_place : (x y : ℤ) → IsAsked x y → is_there c a k (location_at c.width a x y) ≡ is_there_near told earlier near x y
    at_place x y asked =
        there_is (location_at c.width a x y)
        ∙ ap (λ b. is_there_by test earlier c.mbs b (location_at c.width b x y)) (sym has.count)
        ∙ ap (λ w. is_there_by test earlier c.mbs (next_address row) (location_at w (next_address row) x y)) (sym width)
        ∙ availability_found test told earlier c.mbs row m.slice next_is
        (tells_mapped (λ x. is_intra x.mb.syntax) is_intra_info (λ b. not c.constrained_intra_pred || b) c.mbs row.info has.intra) x y asked
        ∙ near_same told (λ u v. earlier u v && test (slice_get c.mbs (next_address row))) earlier own_is near x y

    pub sides_are : k < 16 → sides_of c a k ≡ sides_near c.constrained_intra_pred near k
    sides_are h =
        let x = pos (block_x k) in
        let y = pos (block_y k) in
        let above = at_place x (y -ℤ pos 1) (grind (arith, ints)) in
        let right = at_place (x +ℤ pos 4) (y -ℤ pos 1) (grind (arith, ints)) in
        let left = at_place (x -ℤ pos 1) y (grind (arith, ints)) in
        rw (above, right, left, at_place (x -ℤ pos 1) (y -ℤ pos 1) (grind (arith, ints))) refl

-- ---- the motion and the modes of a picture's macroblocks, over one macroblock more

-- Lists that grow by one entry at a time keep their entries.
module _ {X : Type 0} (before : ℕ → List X) (last : ℕ → X) (none : before 0 ≡ [])
    (more : (n : ℕ) → before (suc n) ≡ before n ++ last n ∷ []) where
  grown_long : (n : ℕ) → length (before n) ≡ n
  grown_long zero = ap length none
  grown_long (suc n) = ap length (more n) ∙ length-append (before n) (last n ∷ []) ∙ ap (λ k. k + 1) (grown_long n) ∙ add-one n

  entry_of_next : (n i : ℕ) (d : X) → i < n → slice_index_or (before (suc n)) i d ≡ slice_index_or (before n) i d
  entry_of_next n i d h = grind (arith, get_or_append_left, grown_long)

  pub grown_entry : (n m i : ℕ) (d : X) → i < n → n ≤ m → slice_index_or (before m) i d ≡ slice_index_or (before n) i d
  grown_entry n zero i d h k = absurd (omega (arith, h, k))
  grown_entry n (suc m) i d h k = elim (cases_lt m n) [
    | inl high ↦ ap (λ j. slice_index_or (before j) i d) (omega (arith, k, high))
    | inr low ↦ entry_of_next m i d (omega (arith, h, low)) ∙ grown_entry n m i d h low
  ]

  grown_last : (n : ℕ) (d : X) → slice_index_or (before (suc n)) n d ≡ last n
  grown_last n d =
      let none_left : n - n ≡ 0 = omega arith in
      ap (λ xs. slice_index_or xs n d) (more n) ∙ get_or-append_right (before n) (last n ∷ []) n n d (grown_long n) (omega arith)
      ∙ ap (λ j. slice_index_or (last n ∷ []) j d) none_left

module _ (c : Coded) (n : ℕ) (m : PicMb) (is : slice_get c.mbs n ≡ Some m) where
  pub motion_last : slice_index_or (motion_before c (suc n)) n [] ≡ motion_of c (motion_before c n) n m.mb.syntax
  motion_last = grown_last (motion_before c) _ refl (λ j. refl) n [] ∙ rw is refl

  pub modes_last : slice_index_or (modes_before c (suc n)) n [] ≡ modes_of c (modes_before c n) n m.mb.syntax
  modes_last = grown_last (modes_before c) _ refl (λ j. refl) n [] ∙ rw is refl

-- ---- total_coeff of the neighbours of the macroblock that comes next

module _ {c : Coded} {names : Names} {m : MbsState} (holds : HoldsFirst c names m) (kept : PartsAgree m) (s : SliceStart)
    (width : s.width ≡ c.width) (slice : ℕ) (number : s.slice ≡ slice) where
  abbrev first_beside : List PicMb
  first_beside = take m.next c.mbs

  row_width : s.width ≡ m.row.width
  row_width = width ∙ sym holds.width ∙ sym kept.row_width

  first_beside_long : length first_beside ≡ next_address m.row
  first_beside_long = length-take-le m.next c.mbs holds.within ∙ sym kept.count

  slices : TellSlices first_beside m.row.info
  slices = tells_first (λ x. x.slice) (λ f. f.slice) c.mbs m.row.info m.next kept.count holds.neighbours.slices

  counts : TellTotalCoeffs first_beside m.row.info
  counts = tells_first (λ x. total_coeffs_of x.mb.syntax) (λ f. f.total_coeffs) c.mbs m.row.info m.next kept.count holds.neighbours.total_coeffs

  wide : 0 < m.row.width
  wide = subst (λ w. 0 < w) (sym kept.row_width) kept.wide

  pub left_is : option_map (λ f. f.total_coeffs) (mb_a m.row slice) ≡ left_total_coeffs s first_beside
  left_is = rw (row_width, number, first_beside_long) (sym (total_coeffs_found first_beside m.row slice wide slices counts).0)

  pub up_is : option_map (λ f. f.total_coeffs) (mb_b m.row slice) ≡ up_total_coeffs s first_beside
  up_is = rw (row_width, number, first_beside_long) (sym (total_coeffs_found first_beside m.row slice wide slices counts).1)

-- ---- the blocks of a quarter of a macroblock are predicted from one reference index

-- the partition of a quarter
abbrev pub partition_of : PMbType → ℕ → ℕ
partition_of P16x16 q = 0
partition_of P16x8 q = q / 2
partition_of P8x16 q = q % 2
partition_of (P8x8 subs) q = q
partition_of (P8x8Ref0 subs) q = q

-- a part's blocks are of quarters of its partition
abbrev IsOf : PMbType → Part → Type 0
IsOf shape p = (k : ℕ) → k < 16 → is_in_part p k ≡ true → p.partition ≡ partition_of shape (k / 4)

abbrev AreOf : PMbType → List Part → Type 0
AreOf shape [] = Unit {0}
AreOf shape (p ∷ ps) = IsOf shape p × AreOf shape ps

abbrev part_at : (x y width height p : ℕ) → Part
part_at x y width height p = record { x = x; y = y; width = width; height = height; partition = p }

module _ (shape : PMbType) where
  both_of : (ps qs : List Part) → AreOf shape ps → AreOf shape qs → AreOf shape (ps ++ qs)
  both_of [] qs e f = f
  both_of (p ∷ ps) qs e f = (e.0, both_of ps qs e.1 f)

  module _ (q : ℕ) (is : (k : ℕ) → k < 16 → q ≡ k / 4 → q ≡ partition_of shape (k / 4)) where
    -- a part in the quarter
    one_of : (x y width height : ℕ) → (quarter_x q ≤ x) × (x + width ≤ quarter_x q + 8) × (quarter_y q ≤ y) × (y + height ≤ quarter_y q + 8)
        → IsOf shape (record { x = x; y = y; width = width; height = height; partition = q })
    one_of x y width height in_quarter k h e =
        let i = bounds x y width height (block_x k) (block_y k) e in
        is k h (omega (arith, i.0, i.1, i.2, i.3, in_quarter.0, in_quarter.1, in_quarter.2, in_quarter.3))

    quarter_of : (s : SubMbType) → AreOf shape (parts_of_quarter s (quarter_x q) (quarter_y q) q)
    quarter_of Sub8x8 = (one_of _ _ _ _ (grind arith), tt)
    quarter_of Sub8x4 = (one_of _ _ _ _ (grind arith), (one_of _ _ _ _ (grind arith), tt))
    quarter_of Sub4x8 = (one_of _ _ _ _ (grind arith), (one_of _ _ _ _ (grind arith), tt))
    quarter_of Sub4x4 = (one_of _ _ _ _ (grind arith), (one_of _ _ _ _ (grind arith), (one_of _ _ _ _ (grind arith), (one_of _ _ _ _ (grind arith), tt))))

  quarters_of : ((q k : ℕ) → k < 16 → q ≡ k / 4 → q ≡ partition_of shape (k / 4)) → (subs : List SubMbType) (q : ℕ)
      → AreOf shape (parts_of_quarters subs q)
  quarters_of is [] q = tt
  quarters_of is (s ∷ subs) q = grind (arith, nat_tests, both_of, quarter_of, quarters_of is subs (q + 1))

-- a part of which each block is looked at
part_of : (shape : PMbType) (p : Part) → list_all (λ k. not (is_in_part p k) || (p.partition == partition_of shape (k / 4))) (range_with_len 0 16) ≡ true → IsOf shape p
part_of shape p all k h e =
    let test = each_sixteen (λ n. not (is_in_part p n) || (p.partition == partition_of shape (n / 4))) all k h in
    grind (arith, nat_tests)

parts_are_of : (shape : PMbType) → AreOf shape (parts_of shape)
parts_are_of P16x16 = (λ k h e. refl, tt)
parts_are_of P16x8 = (part_of P16x8 (part_at 0 0 16 8 0) refl, (part_of P16x8 (part_at 0 8 16 8 1) refl, tt))
parts_are_of P8x16 = (part_of P8x16 (part_at 0 0 8 16 0) refl, (part_of P8x16 (part_at 8 0 8 16 1) refl, tt))
parts_are_of (P8x8 subs) = quarters_of (P8x8 subs) (λ q k h e. e) subs 0
parts_are_of (P8x8Ref0 subs) = quarters_of (P8x8Ref0 subs) (λ q k h e. e) subs 0

-- The block is predicted from this reference index, if from any.
abbrev pub IsFrom : ℕ → Motion → Type 0
IsFrom r absent_motion = Unit {0}
IsFrom r intra_motion = ⊥
IsFrom r (inter_motion s v) = s ≡ r

from_either : (r : ℕ) (b : Bool) (m v : Motion) → (b ≡ true → IsFrom r m) → IsFrom r v → IsFrom r (if b then m else v)
from_either r true m v e f = e refl
from_either r false m v e f = f

module _ (near : Near) (shape : PMbType) (refs : List ℕ) where
  abbrev AllFrom : List Motion → Type 0
  AllFrom mine = (k : ℕ) → k < 16 → IsFrom (slice_index refs (partition_of shape (k / 4))) (slice_index_or mine k absent_motion)

  filled_from : (mine : List Motion) (p : Part) (d : Mvd) → AllFrom mine → IsOf shape p
      → AllFrom (with_part mine p (motion_of_part near shape (slice_index refs p.partition) mine p d))
  filled_from mine p d from is k h =
      rw (at-with_part mine p (motion_of_part near shape (slice_index refs p.partition) mine p d) k h)
      (from_either _ (is_in_part p k) _ _ (λ t. ap (slice_index refs) (is k h t)) (from k h))

  parts_from : (mine : List Motion) (ps : List Part) (ms : List Mvd) → AllFrom mine → AreOf shape ps
      → AllFrom (motion_of_parts near shape refs mine ps ms)
  parts_from mine (p ∷ ps) (d ∷ ms) from is =
      parts_from (with_part mine p (motion_of_part near shape (slice_index refs p.partition) mine p d)) ps ms (filled_from mine p d from is.0) is.1
  parts_from mine ps ms from is = from

  none_from : AllFrom no_motion
  none_from k h = subst (IsFrom (slice_index refs (partition_of shape (k / 4)))) (sym (get_or-replicate 16 k absent_motion absent_motion h)) tt

  inter_from : (mvds : List Mvd) → AllFrom (motion_of_parts near shape refs no_motion (parts_of shape) mvds)
  inter_from mvds = parts_from no_motion (parts_of shape) mvds none_from (parts_are_of shape)

-- the reference index of a quarter of an inter macroblock
abbrev pub quarter_reference : MbSyntax → ℕ → ℕ
quarter_reference (p_inter shape refs mvds r) q = slice_index refs (partition_of shape q)
quarter_reference s q = 0

pub one_reference : (near : Near) (s : MbSyntax) → is_intra s ≡ false → (k : ℕ) → k < 16
    → IsFrom (quarter_reference s (k / 4)) (slice_index_or (motion_by near s) k absent_motion)
one_reference near p_skip e k h = grind (arith, nat_tests, get_or-replicate)
one_reference near (p_inter shape refs mvds r) e k h = inter_from near shape refs mvds k h
one_reference near s e k h = cc

-- ---- what the deblocking filter is told of the first macroblocks, over one macroblock more

pub info_more : (c : Coded) (all : List (List Motion)) (names : Names) (a : ℕ) (info : List MbInfo) (f : MbInfo) → length info ≡ a
    → HaveInfo c all names 0 info → HasInfo c all names a f → HaveInfo c all names 0 (info ++ f ∷ [])
info_more c all names a info f long have has = λ k other below. grind (arith, length-append, cases_lt, get_or_append_left, get_or-append_right)

picture_of : (c : Coded) (a slice i : ℕ) (frame : Frame) → (mb_at c a).slice ≡ slice → frame_named c slice i ≡ Some frame
    → picture_named c a i ≡ Some frame.decoding_index
picture_of c a slice i frame e n = rw (e, n) refl

-- a block that has a picture, with the number of its quarter
number_from : (c : Coded) (slice : ℕ) (numbers : List ℕ) (r : ℕ) (m : Motion) → is_picture (reference_of c slice m) ≡ true → IsFrom r m
    → number_of numbers m ≡ slice_index_or numbers r 0
number_from c slice numbers r (inter_motion i v) there from = ap (λ j. slice_index_or numbers j 0) from
number_from c slice numbers r m there from = cc

module _ {PAD : ℕ} (c : Coded) (names : Names) (s : SliceContext PAD) (slice : IsSlice c names s) (a : ℕ) (mb : Mb)
    (is : slice_get c.mbs a ≡ Some (record { slice = s.number; mb = mb })) (motion : List Motion) (long : length motion ≡ 16)
    (r : ℕ → ℕ) (f : MbInfo) (told : IsFilterInfo mb motion s f) where
  abbrev mb_there : PicMb
  mb_there = record { slice = s.number; mb = mb }

  mb_is : mb_at c a ≡ mb_there
  mb_is = get_or_from_slice_get c.mbs a mb_there _ is

  abbrev block : ℕ → Motion
  block k = slice_index_or motion k absent_motion

  module _ (pictures : (k : ℕ) → k < 16 → is_picture (reference_of c s.number (block k)) ≡ true)
      (one : (k : ℕ) → k < 16 → IsFrom (r (k / 4)) (block k)) where
    quarter_number : (k : ℕ) → k < 16 → slice_index f.pictures (k / 4) ≡ slice_index_or s.frame_numbers (r (k / 4)) 0
    quarter_number k h = grind (arith, number_from, IsFrom)

    block_has : (k : ℕ) → k < 16 → (m : Motion) → block k ≡ m → is_picture (reference_of c s.number m) ≡ true → IsFrom (r (k / 4)) m
        → HasMotion c names a f k m
    block_has k h (inter_motion i v) e there from =
        let n = slice.numbers i there in
        let number : slice_index f.pictures (k / 4) ≡ slice_index_or s.frame_numbers i 0 = quarter_number k h ∙ ap (λ j. slice_index_or s.frame_numbers j 0) (sym from) in
        record {
          reference = i;
          is = ap (λ u. inter_motion i u) (sym (ap (λ vs. slice_index_or vs k zero_vector) told.vectors_are ∙ get_or-map vector_of motion k absent_motion zero_vector (omega (arith, h, long)) ∙ ap vector_of e));
          picture = picture_of c a s.number i n.frame (ap (λ x. x.slice) mb_is) n.named ∙ ap Some (n.decoding_index ∙ ap names.decoding_index (sym number));
          named = subst (λ j. j < names.count) (sym number) n.within;
        }
    block_has k h m e there from = cc

    block_motion : (k : ℕ) → k < 16 → HasMotion c names a f k (block k)
    block_motion k h = block_has k h (block k) refl (pictures k h) (one k h)

  pub has_info : (all : List (List Motion)) → slice_index_or all a [] ≡ motion
      → (is_intra mb.syntax ≡ false → (k : ℕ) → k < 16 → is_picture (reference_of c s.number (block k)) ≡ true)
      → (is_intra mb.syntax ≡ false → (k : ℕ) → k < 16 → IsFrom (r (k / 4)) (block k))
      → HasInfo c all names a f
  has_info all at pictures one = record {
    intra_is = told.intra_is ∙ ap (λ x. is_intra x.mb.syntax) (sym mb_is);
    coefficients_is = λ k h. told.coefficients_is k h ∙ ap (λ x. has_coefficients x.mb.syntax k) (sym mb_is);
    motion_is = λ inter_motion k h.
        let e = sym told.intra_is ∙ inter_motion in
        subst (λ xs. HasMotion c names a f k (slice_index_or xs k absent_motion)) (sym at) (block_motion (pictures e) (one e) k h);
    qp_is = told.qp_is ∙ ap (λ x. filter_qp x.mb.qp x.mb.syntax) (sym mb_is);
    slice_is = told.slice_is ∙ ap (λ x. x.slice) (sym mb_is);
    edges_is = told.edges_is ∙ slice.edges ∙ ap (λ x. (slice_info c x.slice).disable_deblocking_filter_idc) (sym mb_is);
    offset_a_is = told.offset_a_is ∙ slice.offset_a ∙ ap (λ x. (slice_info c x.slice).filter_offset_a) (sym mb_is);
    offset_b_is = told.offset_b_is ∙ slice.offset_b ∙ ap (λ x. (slice_info c x.slice).filter_offset_b) (sym mb_is);
  }

is_zero : (z : ℤ) → (cond (not (nat_abs z == 0)) 1 0 == 0) ≡ (z ==ℤ pos 0)
is_zero (pos n) = grind (arith, nat_tests)
is_zero (negsuc n) = grind (arith, nat_tests)

some_level : (levels : List ℤ) → not (list_all (λ z. cond (not (nat_abs z == 0)) 1 0 == 0) levels) ≡ list_any (λ level. not (level ==ℤ pos 0)) levels
some_level [] = refl
some_level (z ∷ levels) = grind (arith, nat_tests, is_zero, some_level levels)

-- A block has a level that is not 0 where it has some of them.
pub counted_or_not : (levels : List ℤ) → not (total_coeff levels == 0) ≡ list_any (λ level. not (level ==ℤ pos 0)) levels
counted_or_not levels = ap not (sum_by-zero (λ z. cond (not (nat_abs z == 0)) 1 0) levels) ∙ some_level levels

-- ---- what refuses a macroblock, step by step

pub macroblock_fault_is : (c : Coded) (a : ℕ) (m : PicMb) → slice_get c.mbs a ≡ Some m
    → macroblock_fault c a ≡ fault_of (place_of c (modes_before c (suc a)) (motion_before c (suc a)) a m)
macroblock_fault_is c a m is = ap (fault_at c a) is

module _ (p : Place) (motion : List Motion) (is : p.motion ≡ motion) where
  pub out_of_range : (f : Fault) → Err f ≡ motion_or_fault motion → fault_of p ≡ Some f
  out_of_range f e = grind (arith, nat_tests)

  pub in_range : (found : List Motion) → Ok found ≡ motion_or_fault motion → fault_of p ≡ refusal p
  in_range found e = grind (arith, nat_tests)

  pub motion_found : (found : List Motion) → Ok found ≡ motion_or_fault motion → p.motion ≡ found
  motion_found found e = grind (arith, nat_tests)

no_first : (b : Bool) (x : Option Fault) → (if not b then Some RefMissing else x) ≡ None → b ≡ true
no_first true x e = refl
no_first false x e = cc

list_all_each : {X : Type 0} (test : X → Bool) (xs : List X) (d : X) → list_all test xs ≡ true → (k : ℕ) → k < length xs
    → test (slice_index_or xs k d) ≡ true
list_all_each test xs d e k h = All-get_or (λ x. test x ≡ true) xs k d h (AllPass-from_list_all test xs e)

each_picture : (p : Place) (s : MbSyntax) → is_intra s ≡ false → has_references p s ≡ true → (k : ℕ) → k < length p.motion
    → is_picture (reference_of p.coded p.slice (slice_index_or p.motion k absent_motion)) ≡ true
each_picture p p_skip inter e k h = list_all_each (λ m. is_picture (reference_of p.coded p.slice m)) p.motion absent_motion e k h
each_picture p (p_inter shape refs mvds r) inter e k h = list_all_each (λ m. is_picture (reference_of p.coded p.slice m)) p.motion absent_motion e k h
each_picture p s inter e k h = cc

-- The blocks of an inter macroblock that is not refused have their pictures.
pub has_pictures : (p : Place) → refusal p ≡ None → is_intra p.mb.syntax ≡ false → (k : ℕ) → k < length p.motion
    → is_picture (reference_of p.coded p.slice (slice_index_or p.motion k absent_motion)) ≡ true
has_pictures p e inter k h = each_picture p p.mb.syntax inter (no_first (has_references p p.mb.syntax) _ e) k h

-- ---- what a macroblock that is read keeps to, as far as one function or another asks

pub in_range_of : (n : ℕ) (s : MbSyntax) → IsSyntax n s → IsInRange s
in_range_of n p_skip is = tt
in_range_of n s is = search rules

-- the modes of a neighbour
modes_if : (b : Bool) (o o' : Option NeighbourInfo) → HasModes o → HasModes o' → HasModes (if b then o else o')
modes_if true o o' h h' = h
modes_if false o o' h h' = h'

modes_in_slice : (slice : ℕ) (o : Option NeighbourInfo) → HasModes o → HasModes (of_slice slice o)
modes_in_slice slice None h = tt
modes_in_slice slice (Some f) h = modes_if (f.slice == slice) (Some f) None h tt

modes_of_entry : (info : List NeighbourInfo) (k : ℕ) (o : Option NeighbourInfo) → HaveModes info → slice_get info k ≡ o → HasModes o
modes_of_entry info k None h e = tt
modes_of_entry info k (Some f) h e =
    subst (λ g. All IsMode g.modes) (get_or_from_slice_get info k f f e) (h k f (slice_get_within info k f e))

modes_back : (info : List NeighbourInfo) (n : ℕ) → HaveModes info → HasModes (back info n)
modes_back info n h =
    modes_if (nat_lt (length info) n) None (slice_get info (length info - n)) tt (modes_of_entry info (length info - n) _ h refl)

pub modes_left : (row : PictureInfo) (slice : ℕ) → HaveModes row.info → HasModes (mb_a row slice)
modes_left row slice h =
    modes_if (next_address row % row.width == 0) None (of_slice slice (back row.info 1)) tt (modes_in_slice slice (back row.info 1) (modes_back row.info 1 h))

pub modes_above : (row : PictureInfo) (slice : ℕ) → HaveModes row.info → HasModes (mb_b row slice)
modes_above row slice h = modes_in_slice slice (back row.info row.width) (modes_back row.info row.width h)

-- what the parts of a macroblock's decoding ask
pub ruleset asked = (in_range_of, modes_left, modes_above)

-- ---- what holds of the macroblocks so far, before the first and over one more

module _ (old : MbsState) (kept : PartsAgree old) (canvas : CanvasState) (width : canvas.width ≡ old.canvas.width)
    (height : canvas.height ≡ old.canvas.height) (info : NeighbourInfo) (modes : All IsMode info.modes) (f : MbInfo)
    (room : old.next < old.canvas.width * old.canvas.height) where
  pub kept_more : (row : PictureInfo) → row ≡ with_info old.row info
      → PartsAgree (record { canvas = canvas; row = row; filter_info = old.filter_info ++ f ∷ []; next = old.next + 1 })
  kept_more row e =
      let one = All-cons (λ (x : NeighbourInfo). All IsMode x.modes) info [] modes (All-nil _) in
      rw (e, width, height) (record {
        wide = kept.wide;
        high = kept.high;
        row_width = kept.row_width;
        count = length-append old.row.info (info ∷ []) ∙ ap (λ k. k + 1) kept.count;
        within = omega (arith, room);
        modes = All-append (λ x. All IsMode x.modes) old.row.info (info ∷ []) kept.modes one;
        small = kept.small;
        filter_count = length-append old.filter_info (f ∷ []) ∙ ap (λ k. k + 1) kept.filter_count;
      })

none_yet : (width : ℕ) → filtered_rows width 0 ≡ 0
none_yet width = let none : 0 / width ≤ 0 = div-le_self 0 width in omega (arith, none)

module _ (width height : ℕ) (offset : ℤ) (constrained : Bool) (begun : Planes) where
  abbrev pub none_decoded : MbsState
  none_decoded = record {
    canvas = record { width = width; height = height; chroma_qp_index_offset = offset; constrained_intra_pred = constrained; planes = begun };
    row = no_info width;
    filter_info = [];
    next = 0;
  }

  pub kept_none : 0 < width → 0 < height → width * height ≤ max_macroblocks → PartsAgree none_decoded
  kept_none wide high small = grind (arith, All-nil)

  pub holds_none : (c : Coded) (names : Names) → IsSized width height begun → c.width ≡ width → c.height ≡ height → c.chroma_qp_index_offset ≡ offset
      → c.constrained_intra_pred ≡ constrained → HoldsFirst c names none_decoded
  holds_none c names sized w h o f = record {
    within = omega arith;
    width = sym w;
    height = sym h;
    offset = sym o;
    constrained = sym f;
    begun = begun;
    begun_sized = rw (w, h) sized;
    built = ap (λ k. rows_filtered c k (first_built c begun 0)) (sym (none_yet c.width));
    neighbours = record {
      count = refl;
      slices = (map (λ m. m.slice) c.mbs, refl);
      total_coeffs = (map (λ m. total_coeffs_of m.mb.syntax) c.mbs, refl);
      intra = (map (λ m. is_intra m.mb.syntax) c.mbs, refl);
      motion = refl;
      modes = refl;
    };
    filter = λ k other below. absurd (omega (arith, below));
  }

-- a plane of this size, with all its samples
pub whole_plane : (w h : ℕ) (s : Plane) → s.width ≡ w → s.height ≡ h → length s.samples ≡ s.width * s.height → HasSize w h s
whole_plane w h s width height all = record { columns = width; rows = height; all = rw (width, height) at all }

-- ---- what decoding a slice's data answers

pub none-of : {A : Type 0} {o : Option A} → ((x : A) → o ≡ Some x → ⊥) → o ≡ None
none-of {o = None} h = refl
none-of {o = Some x} h = absurd (h x refl)

pub usable-still : {PAD : ℕ} (references : List (Option (ReferencePicture PAD))) {old new : MbsState} → HasSameSize old new
    → AreUsable old.canvas.width old.canvas.height references → AreUsable new.canvas.width new.canvas.height references
usable-still references same usable = grind (arith, ints)

pub same-area : {old new : MbsState} → HasSameSize old new → new.canvas.width * new.canvas.height ≡ old.canvas.width * old.canvas.height
same-area same = rw (same.width, same.height) refl

module _ {PAD : ℕ} {c : Coded} {names : Names} {s : SliceStart} {context : SliceContext PAD} {m m' : MbsState} {d d' : SliceData}
    (far : GoesOnFrom c names s context m d m' d') where
  pub ends-well : (read : ℕ) → m'.next ≡ read → outcome_from c s m' d' ≡ (0, None) → IsDataAnswer c names m.next (outcome_from c s m d) (Ok tt) read m'
  ends-well read reached e = grind (arith, ints)

  pub ends-badly : (k read : ℕ) (f : Fault) (new : MbsState) → read ≡ m'.next + k → outcome_from c s m' d' ≡ (k, Some f)
      → IsDataAnswer c names m.next (outcome_from c s m d) (Err f) read new
  ends-badly k read f new count e = grind (arith, ints)

  pub goes-further : {m'' : MbsState} {d'' : SliceData} → GoesOnFrom c names s context m' d' m'' d'' → GoesOnFrom c names s context m d m'' d''
  goes-further more = record { goes_on = more.goes_on; count = far.count ∙ more.count; fault = far.fault ∙ more.fault }

  -- what the data answers from a later macroblock on
  pub answers-further : (r : Result (Unit {0}) Fault) (read : ℕ) (new : MbsState) → IsDataAnswer c names m'.next (outcome_from c s m' d') r read new
      → IsDataAnswer c names m.next (outcome_from c s m d) r read new
  answers-further (Ok done) read new a = (far.fault ∙ a.0, far.count ∙ a.1, a.2, a.3)
  answers-further (Err f) read new a = (far.fault ∙ a.0, far.count ∙ a.1)

pub from-here : {PAD : ℕ} {c : Coded} {names : Names} {s : SliceStart} {context : SliceContext PAD} {m : MbsState} {d : SliceData} → GoesOn c names s m d context → GoesOnFrom c names s context m d m d
from-here g = record { goes_on = g; count = refl; fault = refl }

pub abs-within : (n : ℕ) (z : ℤ) → pos 0 ≤ℤ z → z ≤ℤ pos n → nat_abs z ≤ n
abs-within n z low high = omega (arith, ints, low, high)

-- ---- one macroblock more of a slice's data: lists

get-here_data : {A : Type 0} (front rest : List A) (x : A) → slice_get (front ++ x ∷ rest) (length front) ≡ Some x
get-here_data [] rest x = refl
get-here_data (y ∷ front) rest x = get-here_data front rest x

-- ---- outcomes

-- what is found in the macroblocks behind one without a fault
with-one : (c : Coded) (a : ℕ) (mb : Mb) (rest : SliceMbs) → macroblock_fault c a ≡ None
    → ((outcome c a (after (mb ∷ []) rest)).0 ≡ (outcome c (suc a) rest).0 + 1) × ((outcome c a (after (mb ∷ []) rest)).1 ≡ (outcome c (suc a) rest).1)
with-one c a mb rest none = grind (arith, none, add-one a)

faulty-one : (c : Coded) (a : ℕ) (mb : Mb) (rest : SliceMbs) (f : Fault) → macroblock_fault c a ≡ Some f
    → outcome c a (after (mb ∷ []) rest) ≡ (1, Some f)
faulty-one c a mb rest f is = grind arith

-- ---- one macroblock more

-- what a call that asks for the next macroblock says of each picture that goes on with the data
abbrev pub Hands : MbsState → (number : ℕ) → Result (Option Mb) Fault → (d d' : SliceData) → Type 0
Hands m number out d d' =
    (c : Coded) (names : Names) (s : SliceStart) → HoldsFirst c names m → s.width ≡ c.width → s.slice ≡ number → Follows s (take m.next c.mbs) d
    → IsHandedOut s (take m.next c.mbs) out d d'

module _ {PAD : ℕ} {c : Coded} {names : Names} {s : SliceStart} {m : MbsState} {d d' : SliceData} {context : SliceContext PAD} {mb : Mb}
    (g : GoesOn c names s m d context) (out : IsHandedOut s (take m.next c.mbs) (Ok (Some mb)) d d') where
  abbrev before : List PicMb
  before = take m.next c.mbs

  abbrev rest : SliceMbs
  rest = rest_of s (before ++ placed s mb ∷ []) d'

  long : length before ≡ m.next
  long = length-take-le m.next c.mbs g.holds.within

  all-mbs : c.mbs ≡ before ++ placed s mb ∷ (map (placed s) rest.mbs ++ g.later)
  all-mbs = g.mbs ∙ ap (λ ms. before ++ (map (placed s) ms.mbs ++ g.later)) out.0

  next-mb : slice_get c.mbs m.next ≡ Some (record { slice = context.number; mb = mb })
  next-mb = grind (arith, all-mbs, long, get-here_data)

  pub room : m.next < m.canvas.width * m.canvas.height
  room = grind (arith, length-append, long)

  pub is-read : IsRead mb
  is-read = record { num_ref_idx_active = s.num_ref_idx_active; syntax = (out.2).range; quantiser = (out.2).quantiser g.quantiser }

  -- the slice has a macroblock
  slice-is : IsSlice c names context
  slice-is = g.is_slice mb rest.mbs (ap (λ ms. ms.mbs) out.0)

  taken : (next : ℕ) → next ≡ suc m.next → take next c.mbs ≡ before ++ placed s mb ∷ []
  taken next e =
      let n : next ≡ length before + 1 = omega (arith, long) in
      ap (take next) all-mbs ∙ rw n (take-append-add before (placed s mb ∷ (map (placed s) rest.mbs ++ g.later)) 1)

  goes-on : (m' : MbsState) → m'.next ≡ suc m.next → HoldsFirst c names m' → GoesOn c names s m' d' context
  goes-on m' e holds = grind (arith, taken, slice-is, all-mbs, append_assoc)

  -- what decoding it answers, in this picture
  abbrev Decodes : Result (Unit {0}) Fault → MbsState → Type 0
  Decodes result m' =
      HoldsFirst c names m → slice_get c.mbs m.next ≡ Some (record { slice = context.number; mb = mb }) → IsSlice c names context → IsDecoded c names m.next result m'

  pub goes-on-from : (m' : MbsState) → m'.next ≡ suc m.next → Decodes (Ok tt) m' → GoesOnFrom c names s context m d m' d'
  goes-on-from m' e decodes = let decoded = decodes g.holds next-mb slice-is in further m' e decoded.0 decoded.1
    where
      further : (m' : MbsState) → m'.next ≡ suc m.next → macroblock_fault c m.next ≡ None → HoldsFirst c names m' → GoesOnFrom c names s context m d m' d'
      further m' e none holds = grind (arith, taken, with-one, goes-on)

  pub faulty : (f : Fault) (m' : MbsState) → Decodes (Err f) m' → outcome_from c s m d ≡ (1, Some f)
  faulty f m' decodes = ap (λ ms. outcome c m.next ms) out.0 ∙ faulty-one c m.next mb rest f (decodes g.holds next-mb slice-is)

pub handed : {PAD : ℕ} {c : Coded} {names : Names} {s : SliceStart} {m : MbsState} {d d' : SliceData} {context : SliceContext PAD} {mb : Mb}
    → GoesOn c names s m d context → Hands m context.number (Ok (Some mb)) d d' → IsHandedOut s (take m.next c.mbs) (Ok (Some mb)) d d'
handed {c = c} {names = names} {s = s} g hands = hands c names s g.holds g.width g.number g.follows

-- where some macroblocks have been decoded, there is room for the one that is handed out, and it is in its ranges
pub has-room : {PAD : ℕ} {m m' : MbsState} {d d' d'' : SliceData} {context : SliceContext PAD} {mb : Mb} → CanGoOn m d context
    → ((c : Coded) (names : Names) (s : SliceStart) → GoesOn c names s m d context → GoesOnFrom c names s context m d m' d')
    → Hands m' context.number (Ok (Some mb)) d' d'' → (m'.next < m'.canvas.width * m'.canvas.height) × IsRead mb
has-room some far hands =
    let here = (far some.coded some.names some.start some.goes_on).goes_on in
    (room here (handed here hands), is-read here (handed here hands))

-- ---- the end

module _ {PAD : ℕ} {c : Coded} {names : Names} {s : SliceStart} {m : MbsState} {d d' : SliceData} {context : SliceContext PAD} (g : GoesOn c names s m d context) where
  pub at-end : Hands m context.number (Ok None) d d' → outcome_from c s m d ≡ (0, None)
  at-end hands = ap (outcome c m.next) (hands c names s g.holds g.width g.number g.follows).0

  pub at-fault : (f : Fault) → Hands m context.number (Err f) d d' → outcome_from c s m d ≡ (0, Some f)
  at-fault f hands = ap (outcome c m.next) (hands c names s g.holds g.width g.number g.follows).0
