-- The parts of a macroblock: where they lie, one more of them, and their vectors.
pub mod Common
unfoldable pub use Common.*

-- ---- where the parts of a macroblock lie

-- inside the macroblock, and of one of n partitions
pub record IsPlaced (n : ℕ) (p : Part) : Type 0 where
  pub in_columns : p.x + p.width ≤ 16
  pub column : p.x < 16
  pub row : p.y < 16
  pub of_partition : p.partition < n

abbrev pub AllPlaced : ℕ → List Part → Type 0
AllPlaced n [] = Unit {0}
AllPlaced n (p ∷ ps) = IsPlaced n p × AllPlaced n ps

module _ (x y q : ℕ) (left : x ≤ 8) (top : y ≤ 8) (first : q < 4) (rest : List Part) (others : AllPlaced 4 rest) where
  placed_quarter : (s : SubMbType) → AllPlaced 4 (parts_of_quarter s x y q ++ rest)
  placed_quarter Sub8x8 = (omega arith, others)
  placed_quarter Sub8x4 = (omega arith, (omega arith, others))
  placed_quarter Sub4x8 = (omega arith, (omega arith, others))
  placed_quarter Sub4x4 = (omega arith, (omega arith, (omega arith, (omega arith, others))))

placed_quarters : (subs : List SubMbType) (q : ℕ) → length subs + q ≤ 4 → AllPlaced 4 (parts_of_quarters subs q)
placed_quarters [] q h = tt
placed_quarters (s ∷ subs) q h =
    placed_quarter (quarter_x q) (quarter_y q) q (omega (arith, h)) (omega (arith, h)) (omega (arith, h))
    (parts_of_quarters subs (q + 1)) (placed_quarters subs (q + 1) (omega (arith, h))) s

pub parts_placed : (shape : PMbType) → HasFourQuarters shape → AllPlaced (partitions shape) (parts_of shape)
parts_placed P16x16 four = omega arith
parts_placed P16x8 four = omega arith
parts_placed P8x16 four = omega arith
parts_placed (P8x8 subs) four = placed_quarters subs 0 (omega (arith, four))
parts_placed (P8x8Ref0 subs) four = placed_quarters subs 0 (omega (arith, four))

-- ---- no later part of a macroblock has a block of an earlier one

-- the block lies in none of the parts
abbrev pub is_off : ℕ → List Part → Bool
is_off k [] = true
is_off k (p ∷ ps) = not (is_in_part p k) && is_off k ps

-- a part with a block that no later part has
pub record HasOwn (p : Part) (ps : List Part) : Type 0 where
  pub block : ℕ
  pub below : block < 16
  pub inside : is_in_part p block ≡ true
  pub alone : is_off block ps ≡ true

abbrev pub Apart : List Part → Type 0
Apart [] = Unit {0}
Apart (p ∷ ps) = HasOwn p ps × Apart ps

off_both : (k : ℕ) (ps qs : List Part) → is_off k ps ≡ true → is_off k qs ≡ true → is_off k (ps ++ qs) ≡ true
off_both k [] qs e f = f
off_both k (p ∷ ps) qs e f = let both = and_parts _ _ e in and_from _ _ both.0 (off_both k ps qs both.1 f)

-- none of the first n blocks
abbrev all_off : ℕ → List Part → Bool
all_off zero ps = true
all_off (suc n) ps = is_off n ps && all_off n ps

off_below : (n : ℕ) (ps : List Part) → all_off n ps ≡ true → (k : ℕ) → k < n → is_off k ps ≡ true
off_below zero ps e k h = absurd (omega (arith, h))
off_below (suc n) ps e k h =
    let both = and_parts _ _ e in below_more (λ j. is_off j ps ≡ true) n (off_below n ps both.1) both.0 k (omega (arith, h))

-- the first block of each part of a quarter whose first block is n
abbrev firsts : SubMbType → ℕ → List ℕ
firsts Sub8x8 n = n ∷ []
firsts Sub8x4 n = n ∷ (n + 2) ∷ []
firsts Sub4x8 n = n ∷ (n + 1) ∷ []
firsts Sub4x4 n = n ∷ (n + 1) ∷ (n + 2) ∷ (n + 3) ∷ []

-- each part has its block of these, all below n, and no later part has it
abbrev are_own : ℕ → List Part → List ℕ → Bool
are_own n [] ks = true
are_own n (p ∷ ps) [] = false
are_own n (p ∷ ps) (k ∷ ks) = (nat_lt k n && is_in_part p k) && (is_off k ps && are_own n ps ks)

apart_by : (n : ℕ) (ps rest : List Part) (ks : List ℕ) → n ≤ 16 → are_own n ps ks ≡ true →
    ((k : ℕ) → k < n → is_off k rest ≡ true) → Apart rest → Apart (ps ++ rest)
apart_by n [] rest ks few own off apart = apart
apart_by n (p ∷ ps) rest [] few own off apart = cc
apart_by n (p ∷ ps) rest (k ∷ ks) few own off apart =
    let both = and_parts (nat_lt k n && is_in_part p k) (is_off k ps && are_own n ps ks) own in
    let here = and_parts (nat_lt k n) (is_in_part p k) both.0 in
    let later = and_parts (is_off k ps) (are_own n ps ks) both.1 in
    let low : k < n = grind (arith, nat_tests, here.0) in (
      record { block = k; below = omega (arith, few, low); inside = here.1; alone = off_both k ps rest later.0 (off k low) },
      apart_by n ps rest ks few later.1 off apart,
    )

-- the parts of a quarter whose first block is n: they have no earlier block, and each has its own
abbrev stands : ℕ → SubMbType → List Part → Bool
stands n s ps = all_off n ps && are_own (n + 4) ps (firsts s n)

off_before : (n : ℕ) (s : SubMbType) (ps : List Part) → stands n s ps ≡ true → (k : ℕ) → k < n → is_off k ps ≡ true
off_before n s ps e = off_below n ps (and_parts _ _ e).0

apart_before : (n : ℕ) (s : SubMbType) (ps rest : List Part) → n ≤ 12 → stands n s ps ≡ true →
    ((k : ℕ) → k < n + 4 → is_off k rest ≡ true) → Apart rest → Apart (ps ++ rest)
apart_before n s ps rest few e off apart =
    apart_by (n + 4) ps rest (firsts s n) (omega (arith, few)) (and_parts _ _ e).1 off apart

quarters : (s : SubMbType) → (stands 0 s (parts_of_quarter s 0 0 0) ≡ true) × (stands 4 s (parts_of_quarter s 8 0 1) ≡ true)
    × (stands 8 s (parts_of_quarter s 0 8 2) ≡ true) × (stands 12 s (parts_of_quarter s 8 8 3) ≡ true)
quarters Sub8x8 = (refl, refl, refl, refl)
quarters Sub8x4 = (refl, refl, refl, refl)
quarters Sub4x8 = (refl, refl, refl, refl)
quarters Sub4x4 = (refl, refl, refl, refl)

off3 : (s3 : SubMbType) (k : ℕ) → k < 12 → is_off k (parts_of_quarters (s3 ∷ []) 3) ≡ true
off3 s3 k h = off_both k (parts_of_quarter s3 8 8 3) [] (off_before 12 s3 (parts_of_quarter s3 8 8 3) (quarters s3).3 k h) refl

off2 : (s2 s3 : SubMbType) (k : ℕ) → k < 8 → is_off k (parts_of_quarters (s2 ∷ s3 ∷ []) 2) ≡ true
off2 s2 s3 k h =
    off_both k (parts_of_quarter s2 0 8 2) (parts_of_quarters (s3 ∷ []) 3) (off_before 8 s2 (parts_of_quarter s2 0 8 2) (quarters s2).2 k h)
    (off3 s3 k (omega (arith, h)))

off1 : (s1 s2 s3 : SubMbType) (k : ℕ) → k < 4 → is_off k (parts_of_quarters (s1 ∷ s2 ∷ s3 ∷ []) 1) ≡ true
off1 s1 s2 s3 k h =
    off_both k (parts_of_quarter s1 8 0 1) (parts_of_quarters (s2 ∷ s3 ∷ []) 2) (off_before 4 s1 (parts_of_quarter s1 8 0 1) (quarters s1).1 k h)
    (off2 s2 s3 k (omega (arith, h)))

quarters_apart : (subs : List SubMbType) → length subs ≡ 4 → Apart (parts_of_quarters subs 0)
quarters_apart (s0 ∷ s1 ∷ s2 ∷ s3 ∷ []) e =
    apart_before 0 s0 (parts_of_quarter s0 0 0 0) (parts_of_quarters (s1 ∷ s2 ∷ s3 ∷ []) 1) (omega arith) (quarters s0).0 (off1 s1 s2 s3)
    (apart_before 4 s1 (parts_of_quarter s1 8 0 1) (parts_of_quarters (s2 ∷ s3 ∷ []) 2) (omega arith) (quarters s1).1 (off2 s2 s3)
    (apart_before 8 s2 (parts_of_quarter s2 0 8 2) (parts_of_quarters (s3 ∷ []) 3) (omega arith) (quarters s2).2 (off3 s3)
    (apart_before 12 s3 (parts_of_quarter s3 8 8 3) [] (omega arith) (quarters s3).3 (λ k h. refl) tt)))
quarters_apart _ e = absurd (omega (arith, e))

pub parts_apart : (shape : PMbType) → HasFourQuarters shape → Apart (parts_of shape)
parts_apart P16x16 four = (record { block = 0; below = omega arith; inside = refl; alone = refl }, tt)
parts_apart P16x8 four =
    (record { block = 0; below = omega arith; inside = refl; alone = refl }, (record { block = 8; below = omega arith; inside = refl; alone = refl }, tt))
parts_apart P8x16 four =
    (record { block = 0; below = omega arith; inside = refl; alone = refl }, (record { block = 4; below = omega arith; inside = refl; alone = refl }, tt))
parts_apart (P8x8 subs) four = quarters_apart subs four
parts_apart (P8x8Ref0 subs) four = quarters_apart subs four

-- ---- vectors by their components

-- A median of numbers that passed through their bits.
pub median_back : (r x y z : ℤ) → FitsSigned w16 x → FitsSigned w16 y → FitsSigned w16 z → FitsSigned w16 r
    → r ≡ median (to_z w16 (of_z w16 x)) (to_z w16 (of_z w16 y)) (to_z w16 (of_z w16 z)) → to_z w16 (of_z w16 r) ≡ median x y z
median_back r x y z fx fy fz fr e = rw (to_z-of_z w16 r fr, e, to_z-of_z w16 x fx, to_z-of_z w16 y fy, to_z-of_z w16 z fz)

-- a number that is kept only where a test holds
abbrev pub kept : Bool → ℤ → Option ℤ
kept b z = if b then Some z else None

kept_false : (b : Bool) (z : ℤ) → None ≡ kept b z → b ≡ false
kept_false true z e = cc
kept_false false z e = refl

-- a vector whose components both fit
pub both_fit : (r : ℕ) (u : Mv) (d : Mvd) (x y px dx py dy : ℤ) → px ≡ u.x → dx ≡ d.x → py ≡ u.y → dy ≡ d.y
    → FitsSigned w16 x → FitsSigned w16 y
    → Some x ≡ kept (is_16_bit (px +ℤ dx)) (px +ℤ dx) → Some y ≡ kept (is_16_bit (py +ℤ dy)) (py +ℤ dy)
    → Ok (inter r (record { x = to_z w16 (of_z w16 x); y = to_z w16 (of_z w16 y) })) ≡ in_range_only (inter r (sum_with_mvd u d))
both_fit r u d x y px dx py dy a b c e fx fy p q =
    let sx = cond_some (is_16_bit (px +ℤ dx)) (px +ℤ dx) x (sym p) in
    let sy = cond_some (is_16_bit (py +ℤ dy)) (py +ℤ dy) y (sym q) in
    let ix : u.x +ℤ d.x ≡ x = rw (← a, ← b) sx.1 in
    let iy : u.y +ℤ d.y ≡ y = rw (← c, ← e) sy.1 in
    let tx : is_16_bit x ≡ true = rw (← sx.1) sx.0 in
    let ty : is_16_bit y ≡ true = rw (← sy.1) sy.0 in
    rw (to_z-of_z w16 x fx, to_z-of_z w16 y fy, ix, iy, tx, ty)

-- a vector of which a component does not fit
pub x_too_far : (r : ℕ) (u : Mv) (d : Mvd) (px dx : ℤ) → px ≡ u.x → dx ≡ d.x → None ≡ kept (is_16_bit (px +ℤ dx)) (px +ℤ dx)
    → Err VectorRange ≡ in_range_only (inter r (sum_with_mvd u d))
x_too_far r u d px dx a b p =
    let f : is_16_bit (u.x +ℤ d.x) ≡ false = rw (← a, ← b) (kept_false (is_16_bit (px +ℤ dx)) (px +ℤ dx) p) in
    rw f

-- ---- the blocks of a part filled in, block by block

pub length-with_part : (mine : List Motion) (part : Part) (m : Motion) → length (with_part mine part m) ≡ 16
unfolding with_part
length-with_part mine part m = refl

pub at-with_part : (mine : List Motion) (part : Part) (m : Motion) (k : ℕ) → k < 16
    → slice_index_or (with_part mine part m) k absent ≡ (if is_in_part part k then m else slice_index_or mine k absent)
unfolding with_part
at-with_part mine part m k h =
    get_or-map-range_with_len (λ k. if is_in_part part k then m else slice_index_or mine k absent) 0 16 k k absent h (omega arith)

-- lists of sixteen that agree at each block
pub same_blocks : (xs ys : List Motion) → length xs ≡ 16 → length ys ≡ 16
    → ((k : ℕ) → k < 16 → slice_index_or xs k absent ≡ slice_index_or ys k absent) → xs ≡ ys
same_blocks xs ys e f same = same_lists xs ys (e ∙ sym f) (λ k d h.
    let below : k < 16 = omega arith in
    get_or_default xs k d absent h ∙ same k below ∙ get_or_default ys k absent d (omega arith))

-- the blocks from the first of a quarter up to i have f, and all others are as they were
pub record AreSet (f : ℕ → Motion) (old now : List Motion) (first i : ℕ) : Type 0 where
  pub long : length now ≡ 16
  pub from : first ≤ i
  pub done : (j : ℕ) → first ≤ j → j < i → slice_index_or now j absent ≡ f j
  pub before : (j : ℕ) → j < first → slice_index_or now j absent ≡ slice_index_or old j absent
  pub left : (j : ℕ) → i ≤ j → slice_index_or now j absent ≡ slice_index_or old j absent

-- one more block is set
pub set_more : (f : ℕ → Motion) (old mine : List Motion) (v : Motion) (first i : ℕ) → i < 16 → v ≡ f i → AreSet f old mine first i
    → AreSet f old (slice_set mine i v) first (i + 1)
set_more f old mine v first i h value had = record {
  long = length-set _ _ _ ∙ had.long;
  from = omega (arith, had.from);
  done = λ j some below. below_more (λ n. first ≤ n → slice_index_or (slice_set mine i v) n absent ≡ f n) i
      (λ n less some. get_or-set_other mine i n v absent (λ e. absurd (omega (arith, e))) ∙ had.done n some less)
      (λ some. get_or-set_same mine i v absent (omega (arith, had.long)) ∙ value) j below some;
  before = λ j h. get_or-set_other mine i j v absent (λ e. absurd (omega (arith, e, h, had.from))) ∙ had.before j h;
  left = λ j h. get_or-set_other mine i j v absent (λ e. absurd (omega (arith, e, h))) ∙ had.left j (omega (arith, h));
}

-- ---- a quarter of the blocks

-- One more quarter is filled in.
pub quarter_more : (old mine now : List Motion) (part : Part) (m : Motion) (q : ℕ) → q < 4 → IsQuarterFilled part q m mine now
    → ((k : ℕ) → k < 4 * q → slice_index_or mine k absent ≡ slice_index_or (with_part old part m) k absent)
    → ((k : ℕ) → 4 * q ≤ k → slice_index_or mine k absent ≡ slice_index_or old k absent)
    → (k : ℕ) → k < 4 * (q + 1) → slice_index_or now k absent ≡ slice_index_or (with_part old part m) k absent
quarter_more old mine now part m q few filled done left k below =
    elim (cases_lt k (4 * q)) [
      | inl less ↦ filled.before k less ∙ done k less
      | inr from ↦
          filled.here k (from, omega arith) ∙ ap (λ x. if is_in_part part k then m else x) (left k from) ∙ sym (at-with_part old part m k (omega arith))
    ]

-- ---- one more part of a list of parts

abbrev result_where : Bool → Motion → Result Motion Fault
result_where b m = if b then Ok m else Err VectorRange

ok_where : (b : Bool) (m v : Motion) → Ok v ≡ result_where b m → (b ≡ true) × (m ≡ v)
ok_where true m v e = (refl, cc)
ok_where false m v e = cc

err_where : (b : Bool) (m : Motion) (f : Fault) → Err f ≡ result_where b m → (b ≡ false) × (f ≡ VectorRange)
err_where true m f e = cc
err_where false m f e = (refl, cc)

module _ (near : Near) (shape : PMbType) (refs : List ℕ) (mine : List Motion) (parts : List Part) (mvds : List Mvd) (i : ℕ) (p : Part) (d : Mvd)
    (in_parts : i < length parts) (in_mvds : i < length mvds) where
  abbrev pub here : Motion
  here = motion_of_part near shape (slice_index refs (slice_index_or parts i p).partition) mine (slice_index_or parts i p) (slice_index_or mvds i d)

  unrolled : decoded near shape refs mine (drop i parts) (drop i mvds)
      ≡ (if is_in_range here then decoded near shape refs (with_part mine (slice_index_or parts i p) here) (drop (i + 1) parts) (drop (i + 1) mvds) else None)
  unrolled =
      at_drop_more (λ ps. decoded near shape refs mine ps (drop i mvds)) parts i p in_parts
      ∙ at_drop_more (λ ms. decoded near shape refs mine (slice_index_or parts i p ∷ drop (i + 1) parts) ms) mvds i d in_mvds

  module _ (whole : Option (List Motion)) (so_far : decoded near shape refs mine (drop i parts) (drop i mvds) ≡ whole) where
    pub goes_on : (v : Motion) (now : List Motion) → Ok v ≡ in_range_only here → now ≡ with_part mine (slice_index_or parts i p) v
        → decoded near shape refs now (drop (i + 1) parts) (drop (i + 1) mvds) ≡ whole
    goes_on v now e filled =
        let is = ok_where (is_in_range here) here v e in
        let step : decoded near shape refs mine (drop i parts) (drop i mvds)
        ≡ decoded near shape refs (with_part mine (slice_index_or parts i p) here) (drop (i + 1) parts) (drop (i + 1) mvds)
        = unrolled ∙ (rw (is.0) refl) in
        ap (λ m. decoded near shape refs m (drop (i + 1) parts) (drop (i + 1) mvds))
        (filled ∙ ap (λ m. with_part mine (slice_index_or parts i p) m) (sym is.1))
        ∙ sym step ∙ so_far

    pub stops : (f : Fault) → Err f ≡ in_range_only here → (f ≡ VectorRange) × (whole ≡ None)
    stops f e = let is = err_where (is_in_range here) here f e in (is.1, sym so_far ∙ unrolled ∙ (rw (is.0) refl))

-- The same parts come to the same.
pub of_same_parts : (near : Near) (shape : PMbType) (refs : List ℕ) (mine now : List Motion) (mvds : List Mvd) (r : Result (Unit {0}) Fault) (ps qs : List Part)
    → ps ≡ qs → Decodes r now (decoded near shape refs mine ps mvds) → Decodes r now (decoded near shape refs mine qs mvds)
of_same_parts near shape refs mine now mvds r ps qs e h = subst (λ (parts : List Part). Decodes r now (decoded near shape refs mine parts mvds)) e h

-- ---- parts before others

pub some_where : (b : Bool) (x : Option (List Motion)) (m : List Motion) → (if b then x else None) ≡ Some m → (b ≡ true) × (x ≡ Some m)
some_where true x m e = (refl, e)
some_where false x m e = cc

pub decoded_before : (near : Near) (shape : PMbType) (refs : List ℕ) (mine m : List Motion) (ps qs : List Part) (ms : List Mvd)
    → length ps ≤ length ms → decoded near shape refs mine ps ms ≡ Some m
    → decoded near shape refs mine (ps ++ qs) ms ≡ decoded near shape refs m qs (drop (length ps) ms)
decoded_before near shape refs mine m [] qs ms h e = ap (λ x. decoded near shape refs x qs ms) (same_Some mine m e)
decoded_before near shape refs mine m (p ∷ ps) qs [] h e = absurd (omega (arith, h))
decoded_before near shape refs mine m (p ∷ ps) qs (d ∷ ms) h e =
    let v = motion_of_part near shape (slice_index refs p.partition) mine p d in
    let is = some_where (is_in_range v) (decoded near shape refs (with_part mine p v) ps ms) m e in
    rw (is.0) (decoded_before near shape refs (with_part mine p v) m ps qs ms (omega (arith, h)) is.1)

none_after : (b : Bool) (x y : Option (List Motion)) → (x ≡ None → y ≡ None) → (if b then x else None) ≡ None → (if b then y else None) ≡ None
none_after true x y f e = f e
none_after false x y f e = refl

pub none_before : (near : Near) (shape : PMbType) (refs : List ℕ) (mine : List Motion) (ps qs : List Part) (ms : List Mvd)
    → decoded near shape refs mine ps ms ≡ None → decoded near shape refs mine (ps ++ qs) ms ≡ None
none_before near shape refs mine [] qs ms e = cc
none_before near shape refs mine (p ∷ ps) qs [] e = cc
none_before near shape refs mine (p ∷ ps) qs (d ∷ ms) e =
    let v = motion_of_part near shape (slice_index refs p.partition) mine p d in
    none_after (is_in_range v) (decoded near shape refs (with_part mine p v) ps ms) (decoded near shape refs (with_part mine p v) (ps ++ qs) ms)
    (none_before near shape refs (with_part mine p v) ps qs ms) e

pub decodes_ok : (r : Result (Unit {0}) Fault) (u : Unit {0}) (now : List Motion) (d : Option (List Motion)) → r ≡ Ok u → Decodes r now d → d ≡ Some now
decodes_ok (Ok v) u now d e h = h
decodes_ok (Err f) u now d e h = cc

pub decodes_err : (r : Result (Unit {0}) Fault) (f : Fault) (now : List Motion) (d : Option (List Motion)) → r ≡ Err f → Decodes r now d → (f ≡ VectorRange) × (d ≡ None)
decodes_err (Ok v) f now d e h = cc
decodes_err (Err g) f now d e h = (cc, h.1)

-- one more quarter
module _ (near : Near) (shape : PMbType) (refs : List ℕ) (mine : List Motion) (subs : List SubMbType) (mvds : List Mvd) (q used : ℕ) (d : SubMbType)
    (in_subs : q < length subs) where
  abbrev pub parts_here : List Part
  parts_here = parts_of_quarter (slice_index_or subs q d) (quarter_x q) (quarter_y q) q

  quarter_first : decoded near shape refs mine (parts_of_quarters (drop q subs) q) (drop used mvds)
      ≡ decoded near shape refs mine (parts_here ++ parts_of_quarters (drop (q + 1) subs) (q + 1)) (drop used mvds)
  quarter_first = at_drop_more (λ ss. decoded near shape refs mine (parts_of_quarters ss q) (drop used mvds)) subs q d in_subs

  module _ (whole : Option (List Motion)) (so_far : decoded near shape refs mine (parts_of_quarters (drop q subs) q) (drop used mvds) ≡ whole) where
    pub quarter_goes_on : (now : List Motion) (n : ℕ) → n ≡ length parts_here → n + used ≤ length mvds
        → decoded near shape refs mine parts_here (drop used mvds) ≡ Some now
        → decoded near shape refs now (parts_of_quarters (drop (q + 1) subs) (q + 1)) (drop (used + n) mvds) ≡ whole
    quarter_goes_on now n count enough e =
        let left : length (drop used mvds) ≡ length mvds - used = length-drop used mvds in
        let fits : length parts_here ≤ length (drop used mvds) = omega (arith, left, count, enough) in
        let places : drop (length parts_here) (drop used mvds) ≡ drop (used + n) mvds = drop-drop (length parts_here) used mvds ∙ ap (λ k. drop k mvds) (omega (arith, count)) in
        ap (λ ms. decoded near shape refs now (parts_of_quarters (drop (q + 1) subs) (q + 1)) ms) (sym places)
        ∙ sym (decoded_before near shape refs mine now parts_here (parts_of_quarters (drop (q + 1) subs) (q + 1)) (drop used mvds) fits e)
        ∙ sym quarter_first ∙ so_far

    pub quarter_stops : decoded near shape refs mine parts_here (drop used mvds) ≡ None → whole ≡ None
    quarter_stops e =
        sym so_far ∙ quarter_first
        ∙ none_before near shape refs mine parts_here (parts_of_quarters (drop (q + 1) subs) (q + 1)) (drop used mvds) e

-- what a slice to the end has
pub all_behind : (xs : List Mvd) (i n : ℕ) → length xs ≡ n → mid_of i (n - i) xs ≡ drop i xs
all_behind xs i n e = ap (λ m. take (m - i) (drop i xs)) (sym e) ∙ take_rest xs i

-- ---- a macroblock of one partition: all its blocks have one motion

filled_alike : (mine : List Motion) (v : Motion) → AreOfOneMotion (with_part mine (part 0 0 16 16 0) v)
unfolding with_part
filled_alike mine v = refl

-- whatever stood there, where no block is decoded yet
pub decoded_alike : (near : Near) (refs : List ℕ) (shape : PMbType) (mvds : List Mvd) (mine m : List Motion) → is_one_partition shape ≡ true → mine ≡ no_motion
    → decoded near shape refs mine (parts_of shape) mvds ≡ Some m → AreOfOneMotion m
decoded_alike near refs P16x16 [] mine m one none e = subst AreOfOneMotion (sym none ∙ same_Some mine m e) refl
decoded_alike near refs P16x16 (d ∷ ds) mine m one none e =
    let v = motion_of_part near P16x16 (slice_index refs 0) mine (part 0 0 16 16 0) d in
    let filled = with_part mine (part 0 0 16 16 0) v in
    subst AreOfOneMotion (same_Some filled m (some_where (is_in_range v) (Some filled) m e).1) (filled_alike mine v)
decoded_alike near refs _ mvds mine m one none e = cc
