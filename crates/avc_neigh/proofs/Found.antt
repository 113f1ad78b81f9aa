-- What is found by sample coordinates is what the neighbours have.
pub mod RowKeeping
unfoldable pub use RowKeeping.*
use Rattle.avc_neigh.specs.declared.neighbour_info.NearMode.TheVariants.{Absent as absent_motion}

-- ---- the first column and the first row

pub leftmost : (k : ℕ) → k < 16 → nat_eq (bit_and k 5) 0 ≡ (block_x k == 0)
leftmost k = agree_below_at (λ k. nat_eq (bit_and k 5) 0) (λ k. block_x k == 0) 16 k refl

pub topmost : (k : ℕ) → k < 16 → nat_eq (bit_and k 10) 0 ≡ (block_y k == 0)
topmost k = agree_below_at (λ k. nat_eq (bit_and k 10) 0) (λ k. block_y k == 0) 16 k refl

-- ---- what is found by sample coordinates is what the neighbours have

there_is : {X : Type 0} (xs : List X) (i : ℕ) → i < length xs → (x : X) × (slice_get xs i ≡ Some x)
there_is [] i h = absurd (omega arith)
there_is (x ∷ xs) zero h = (x, refl)
there_is (x ∷ xs) (suc i) h = there_is xs i (omega arith)

some_of : {X Y : Type 0} (f : X → Y) (o : Option X) (y : Y) → option_map f o ≡ Some y → (x : X) × (o ≡ Some x) × (f x ≡ y)
some_of f None y e = cc
some_of f (Some x) y e = (x, refl, cc)

-- what the info tells of a macroblock before the next
told_at : {Y : Type 0} (said : PicMb → Y) (told : NeighbourInfo → Y) (mbs : List PicMb) (info : List NeighbourInfo)
    → InfoTell said told mbs info
    → (b : ℕ) (f : NeighbourInfo) → b < length info → slice_get info b ≡ Some f
    → (m : PicMb) × (slice_get mbs b ≡ Some m) × (said m ≡ told f)
told_at said told mbs info tell b f h is =
    let within : b < length (map told info) = rw length-map h in
    some_of said (slice_get mbs b) (told f)
    (rw (← slice_get-map said mbs b, tell.1, slice_get-append (map told info) tell.0 b within, slice_get-map told info b, is) refl)

-- ---- the macroblock at an address, in its slice

-- Of a location in an earlier macroblock the same is found as of the neighbour, if it is where both are of the slice, and where they are not.
matched : {X : Type 0} (at : Option Location → X) (of : Option NeighbourInfo → ℕ → ℕ → X) (info : List NeighbourInfo) (slice : ℕ)
    → ((u v : ℕ) → at None ≡ of None u v)
    → ((b u v : ℕ) (f : NeighbourInfo) → b < length info → slice_get info b ≡ Some f → f.slice ≡ slice → at (Some (place_of b u v)) ≡ of (Some f) u v)
    → ((b u v : ℕ) (f : NeighbourInfo) → b < length info → slice_get info b ≡ Some f → f.slice ≢ slice → at (Some (place_of b u v)) ≡ of None u v)
    → (l : Option Location) (n : Option NeighbourInfo) (u v : ℕ) → Matches info slice l n u v → at l ≡ of n u v
matched at of info slice none same other l n u v (inl off) = rw (off.0, off.1) (none u v)
matched at of info slice none same other l n u v (inr some) =
    let f = there_is info some.0 some.1 in
    elim (cases_eq (f.0).slice slice) [
      | inl e ↦ rw (some.2, some.3, f.1, eq-eqb (f.0).slice slice e) (same some.0 u v f.0 some.1 f.1 e)
      | inr e ↦ rw (some.2, some.3, f.1, ne_eqb (f.0).slice slice e) (other some.0 u v f.0 some.1 f.1 e)
    ]

module _ {Y : Type 0} (said : Mb → Y) (told : NeighbourInfo → Y) (mbs : List PicMb) (info : List NeighbourInfo) (slice : ℕ)
    (slices : TellSlices mbs info) (tell : InfoTell (λ m. said m.mb) told mbs info) where
  same_there : (b : ℕ) (f : NeighbourInfo) → b < length info → slice_get info b ≡ Some f → f.slice ≡ slice
      → option_map said (in_slice slice (slice_get mbs b)) ≡ Some (told f)
  same_there b f h is same =
      let m = told_at (λ m. m.slice) (λ f. f.slice) mbs info slices b f h is in
      let m' = told_at (λ m. said m.mb) told mbs info tell b f h is in
      let one : m'.0 ≡ m.0 = cc (m'.1, m.1) in
      rw (m.1, eq-eqb (m.0).slice slice (m.2 ∙ same), ← one) (ap Some m'.2)

  other_there : (b : ℕ) (f : NeighbourInfo) → b < length info → slice_get info b ≡ Some f → f.slice ≢ slice
      → option_map said (in_slice slice (slice_get mbs b)) ≡ None
  other_there b f h is other =
      let m = told_at (λ m. m.slice) (λ f. f.slice) mbs info slices b f h is in
      rw (m.1, ne_eqb (m.0).slice slice (λ e. other (sym m.2 ∙ e))) refl

  pub found_there : (l : Option Location) (n : Option NeighbourInfo) (u v : ℕ) → Matches info slice l n u v
      → option_map said (at_location mbs slice l) ≡ option_map told n
  found_there =
      matched (λ l. option_map said (at_location mbs slice l)) (λ n u v. option_map told n) info slice (λ u v. refl) (λ b u v. same_there b) (λ b u v. other_there b)

pub total_coeffs_found : TotalCoeffsAreFound
total_coeffs_found mbs p slice wide slices tell =
    let place = sym (div-add-mod' (length p.info) p.width) in
    let inside = mod_below (length p.info) p.width wide in
    let found = found_there (λ m. total_coeffs_of m.syntax) (λ f. f.total_coeffs) mbs p.info slice slices tell in (
      found _ _ 15 0 (match_a p.width p.info slice _ _ refl refl place inside 0 (lit< tt)),
      found _ _ 0 15 (match_b p.width p.info slice _ _ refl refl place inside 0 (lit< tt)),
    )

-- ---- what lies beside the next macroblock

-- By sample coordinates: what stands in the next macroblock, beside it, and after it, where nothing is.
module _ (width : ℕ) (wide : 0 < width) (info : List NeighbourInfo) (slice : ℕ) where
  abbrev n : Around
  n = around (record { width = width; info = info }) slice

  place : length info ≡ length info / width * width + length info % width
  place = sym (div-add-mod' (length info) width)

  inside : length info % width < width
  inside = mod_below (length info) width wide

  module _ {X : Type 0} (at : Option Location → X) (own : ℕ → ℕ → X) (of : Option NeighbourInfo → ℕ → ℕ → X) (absent : X)
      (itself : (x y : ℕ) → at (Some (place_of (length info) x y)) ≡ own x y)
      (beside : (l : Option Location) (m : Option NeighbourInfo) (u v : ℕ) → Matches info slice l m u v → at l ≡ of m u v)
      (nowhere : at None ≡ absent) (after : (x y : ℕ) → at (Some (place_of (length info + 1) x y)) ≡ absent)
      (near : ℤ → ℤ → X) (near_own : (x y : ℕ) → near (pos x) (pos y) ≡ (if nat_lt x 16 then own x y else absent))
      (near_a : (y : ℕ) → near (negsuc 0) (pos y) ≡ of n.a 15 y)
      (near_above : (x : ℕ) → near (pos x) (negsuc 0) ≡ (if nat_lt x 16 then of n.b x 15 else of n.c 0 15))
      (near_d : near (negsuc 0) (negsuc 0) ≡ of n.d 15 15) where
    right : (y : ℕ) → y < 16 → at (location_at width (length info) (pos 16) (pos y)) ≡ absent
    right y h = grind (arith, at_right, place, after)

    pub found_at : (x y : ℤ) → IsAsked x y → at (location_at width (length info) x y) ≡ near x y
    found_at (pos x) (pos y) asked =
        let below : y < 16 = omega (arith, ints, asked.bottom) in
        elim (cases_lt x 16) [
          | inl h ↦ rw (near_own x y, lt-ltb x 16 h) (ap at (at_itself width info slice _ _ refl refl place inside x y h below) ∙ itself x y)
          | inr h ↦
              let last : x ≡ 16 = omega (arith, ints, asked.right) in
              rw (near_own x y, le-ltb x 16 h) (ap (λ i. at (location_at width (length info) (pos i) (pos y))) last ∙ right y below)
        ]
    found_at (negsuc zero) (pos y) asked = grind (arith, beside, match_a, place)
    found_at (pos x) (negsuc zero) asked = grind (arith, cases_lt, lt-ltb, beside, match_b, place, le-ltb, match_c)
    found_at (negsuc zero) (negsuc zero) asked = beside _ _ 15 15 (match_d width info slice _ _ refl refl place inside) ∙ sym near_d
    found_at (negsuc (suc x)) y asked = absurd (omega (arith, ints, asked.left))
    found_at x (negsuc (suc y)) asked = absurd (omega (arith, ints, asked.top))

if_absent : {X : Type 0} (c : Bool) (absent : X) → (if c then absent else absent) ≡ absent
if_absent c absent = grind arith

not_both : (p q : Bool) → ((p && false) && q) ≡ false
not_both p q = grind arith

module _ (mbs : List PicMb) (info : List NeighbourInfo) (slice : ℕ) (slices : TellSlices mbs info)
    (next : option_map (λ m. m.slice) (slice_get mbs (length info)) ≡ Some slice) where
  same_slice_at : (b : ℕ) (f : NeighbourInfo) → b < length info → slice_get info b ≡ Some f
      → same_slice mbs (length info) b ≡ (slice == f.slice)
  same_slice_at b f h is =
      let this = some_of (λ m. m.slice) (slice_get mbs (length info)) slice next in
      let m = told_at (λ m. m.slice) (λ f. f.slice) mbs info slices b f h is in
      rw (this.1, m.1, this.2, m.2) refl

  module _ {X : Type 0} (absent : X) (blocks : NeighbourInfo → List X) (mine : List X) where
    abbrev at : Option Location → X
    at = nearby absent mbs (map blocks info) mine (length info)

    same_block : (b u v : ℕ) (f : NeighbourInfo) → b < length info → slice_get info b ≡ Some f → f.slice ≡ slice
        → at (Some (place_of b u v)) ≡ block_of absent blocks (Some f) (block_at u v)
    same_block b u v f h is same =
        let read = get_or_from_slice_get (map blocks info) b (blocks f) [] (rw (slice_get-map blocks info b, is) refl) in
        rw (ne_eqb b (length info) (λ e. absurd (omega arith)), same_slice_at b f h is, eq-eqb slice f.slice (sym same), read) refl

    other_block : (b u v : ℕ) (f : NeighbourInfo) → b < length info → slice_get info b ≡ Some f → f.slice ≢ slice → at (Some (place_of b u v)) ≡ absent
    other_block b u v f h is other =
        rw (ne_eqb b (length info) (λ e. absurd (omega arith)), same_slice_at b f h is, ne_eqb slice f.slice (λ e. other (sym e))) refl

    beside : (l : Option Location) (n : Option NeighbourInfo) (u v : ℕ) → Matches info slice l n u v
        → at l ≡ block_of absent blocks n (block_at u v)
    beside = matched at (λ n u v. block_of absent blocks n (block_at u v)) info slice (λ u v. refl) same_block other_block

    itself : (x y : ℕ) → at (Some (place_of (length info) x y)) ≡ get_or mine (block_at x y) absent
    itself x y = rw (eq-eqb (length info) (length info) refl) refl

    after : (x y : ℕ) → at (Some (place_of (length info + 1) x y)) ≡ absent
    after x y = grind (arith, get_or_past, length-map, ne_eqb, if_absent)

    pub found : (width : ℕ) (wide : 0 < width) (x y : ℤ) → IsAsked x y
        → at (location_at width (length info) x y) ≡ block_near absent blocks (around (record { width = width; info = info }) slice) mine x y
    found width wide =
        found_at width wide info slice at (λ u v. get_or mine (block_at u v) absent) (λ m u v. block_of absent blocks m (block_at u v)) absent itself beside refl after
        _ (λ x y. refl) (λ y. refl) (λ x. refl) refl

pub blocks_found : {X : Type 0} (absent : X) (blocks : NeighbourInfo → List X) → BlocksAreFound absent blocks
blocks_found absent blocks mbs p slice is = grind (arith, found)

-- ---- which samples are there

module _ (test : Option PicMb → Bool) (told : NeighbourInfo → Bool) (earlier : ℕ → ℕ → Bool) (mbs : List PicMb) (p : PictureInfo)
    (slice : ℕ) (is : IsNext mbs p slice) (tell : InfoTell (λ m. test (Some m)) told mbs p.info) where
  abbrev there : Option Location → Bool
  there = is_there_by test earlier mbs (length p.info)

  same_tested : (b u v : ℕ) (f : NeighbourInfo) → b < length p.info → slice_get p.info b ≡ Some f → f.slice ≡ slice → there (Some (place_of b u v)) ≡ told f
  same_tested b u v f h here same =
      let m = told_at (λ m. test (Some m)) told mbs p.info tell b f h here in
      rw (same_slice_at mbs p.info slice is.slices is.next b f h here, eq-eqb slice f.slice (sym same), lt-ltb b (length p.info) h) (ap test m.1 ∙ m.2)

  other_tested : (b u v : ℕ) (f : NeighbourInfo) → b < length p.info → slice_get p.info b ≡ Some f → f.slice ≢ slice → there (Some (place_of b u v)) ≡ false
  other_tested b u v f h here other = rw (same_slice_at mbs p.info slice is.slices is.next b f h here, ne_eqb slice f.slice (λ e. other (sym e))) refl

  there_beside : (l : Option Location) (n : Option NeighbourInfo) (u v : ℕ) → Matches p.info slice l n u v → there l ≡ holds_of told n
  there_beside = matched there (λ n u v. holds_of told n) p.info slice (λ u v. refl) same_tested other_tested

  in_own_slice : same_slice mbs (length p.info) (length p.info) ≡ true
  in_own_slice = grind (arith, some_of, eq-eqb)

  there_itself : (x y : ℕ) → there (Some (place_of (length p.info) x y)) ≡ (earlier x y && test (slice_get mbs (length p.info)))
  there_itself x y = rw (in_own_slice, le-ltb (length p.info) (length p.info) (omega arith), eq-eqb (length p.info) (length p.info) refl) refl

  not_after : (x y : ℕ) → there (Some (place_of (length p.info + 1) x y)) ≡ false
  not_after x y = grind (arith, le-ltb, ne_eqb, not_both)

  abbrev own : ℕ → ℕ → Bool
  own u v = earlier u v && test (slice_get mbs (length p.info))

  pub there_found : (x y : ℤ) → IsAsked x y → there (location_at p.width (length p.info) x y) ≡ is_there_near told own (around p slice) x y
  there_found =
      found_at p.width is.wide p.info slice there own (λ m u v. holds_of told m) false there_itself there_beside refl not_after
      _ (λ x y. refl) (λ y. refl) (λ x. refl) refl

pub availability_found : AvailabilityIsFound
availability_found test told earlier mbs p slice is tell x y asked = there_found test told earlier mbs p slice is tell x y asked

-- ---- the modes of an I_NxN macroblock, from its four neighbours

unfoldable pub modes_near : Around → Bool → List NearMode → List (Option ℕ) → List NearMode
modes_near n constrained mine [] = mine
modes_near n constrained mine (coded ∷ rest) =
    modes_near n constrained (mine ++ mode (chosen_mode (prediction_near n constrained mine (length mine)) coded) ∷ []) rest

asked_left : (k : ℕ) → k < 16 → IsAsked (pos (block_x k) -ℤ pos 1) (pos (block_y k))
asked_left k h = grind (arith, ints)

asked_above : (k : ℕ) → k < 16 → IsAsked (pos (block_x k)) (pos (block_y k) -ℤ pos 1)
asked_above k h = grind (arith, ints)

module _ (n : Around) (c : Coded) (known : List (List NearMode)) (a : ℕ) (near : ModesAreAround n c.mbs c.width known a) where
  same_prediction : (mine : List NearMode) → length mine < 16
      → prediction_for c known a mine ≡ prediction_near n c.constrained_intra_pred mine (length mine)
  same_prediction mine h =
      rw (near.block mine _ _ (asked_left (length mine) h), near.block mine _ _ (asked_above (length mine) h)) refl

  pub same_modes : (mine : List NearMode) (coded : List (Option ℕ)) → length mine + length coded ≤ 16
      → nxn_modes c known a mine coded ≡ modes_near n c.constrained_intra_pred mine coded
  unfolding modes_near
  same_modes mine [] h = refl
  same_modes mine (x ∷ coded) h =
      ap (λ p. nxn_modes c known a (mine ++ mode (chosen_mode p x) ∷ []) coded) (same_prediction mine (omega arith))
      ∙ same_modes (mine ++ mode (chosen_mode (prediction_near n c.constrained_intra_pred mine (length mine)) x) ∷ []) coded
      (omega (arith, length-append {A = NearMode}))

-- ---- one block more

pub modes_step : (n : Around) (constrained : Bool) (k : ℕ) (modes : List NearMode) (coded : List (Option ℕ)) (v : ℕ) (x : Option ℕ)
    → k < 16 → length modes ≡ 16 → length coded ≡ 16
    → x ≡ get_or coded k x → v ≡ chosen_mode (prediction_near n constrained (take k modes) k) x
    → modes_near n constrained (take k modes) (drop k coded) ≡ modes_near n constrained (take (k + 1) (set modes k (mode v))) (drop (k + 1) coded)
unfolding modes_near
modes_step n constrained k modes coded v x h long many read chosen = grind (arith, drop_more, length-take-le, take-set_at)

-- after the last block
pub modes_end : (n : Around) (constrained : Bool) (k : ℕ) (modes : List NearMode) (coded : List (Option ℕ)) → 16 ≤ k → length modes ≡ 16 → length coded ≡ 16
    → modes_near n constrained [] coded ≡ modes_near n constrained (take k modes) (drop k coded) → AreNxnModes n constrained coded modes
unfolding modes_near
modes_end n constrained k modes coded h long many done p known a same near = grind (arith, drop_all, take_all, same_modes)

-- ---- how large modes are

pub mode_in : (modes : List NearMode) → All IsMode modes → (k : ℕ) → IsMode (get_or modes k absent_motion)
mode_in modes all k = grind (arith, cases_lt, get_or_past)

mode_of_side : (f : Option NeighbourInfo) → HasModes f → (k : ℕ) → IsMode (block_of absent_motion (λ f. f.modes) f k)
mode_of_side None h k = tt
mode_of_side (Some f) h k = mode_in f.modes h k

mode_if : (b : Bool) (m : NearMode) → IsMode m → IsMode (if b then m else absent_motion)
mode_if true m h = h
mode_if false m h = tt

pub near_left_is_mode : (n : Around) (mine : List NearMode) (x : ℤ) (y : ℕ) → HasModes n.a → ((k : ℕ) → IsMode (get_or mine k absent_motion))
    → IsMode (mode_near n mine x (pos y))
near_left_is_mode n mine (pos x) y h own = mode_if (nat_lt x 16) _ (own _)
near_left_is_mode n mine (negsuc x) y h own = mode_of_side n.a h _

pub near_above_is_mode : (n : Around) (mine : List NearMode) (x : ℕ) (y : ℤ) → x < 16 → HasModes n.b
    → ((k : ℕ) → IsMode (get_or mine k absent_motion)) → IsMode (mode_near n mine (pos x) y)
near_above_is_mode n mine x (pos y) below h own = mode_if (nat_lt x 16) _ (own _)
near_above_is_mode n mine x (negsuc y) below h own = rw (lt-ltb x 16 below) (mode_of_side n.b h _)

small_neighbour : (constrained : Bool) (m : NearMode) → IsMode m → IfSome (mode_of_neighbour constrained m) (λ v. v ≤ 8)
small_neighbour constrained absent_motion h = tt
small_neighbour true inter h = tt
small_neighbour false inter h = lit≤ tt
small_neighbour constrained (mode m) h = h

small_prediction : (a b : Option ℕ) → IfSome a (λ v. v ≤ 8) → IfSome b (λ v. v ≤ 8) → predicted_mode a b ≤ 8
small_prediction (Some a) (Some b) h i = omega arith
small_prediction _ _ h i = lit≤ tt

small_choice : (p : ℕ) (coded : Option ℕ) → p ≤ 8 → IsRem coded → chosen_mode p coded ≤ 8
small_choice p None h i = h
small_choice p (Some rem) h i = grind (arith, nat_tests)

own_before : (modes : List NearMode) (k : ℕ) → ((i : ℕ) → i < k → IsMode (get_or modes i absent_motion)) → (i : ℕ)
    → IsMode (get_or (take k modes) i absent_motion)
own_before modes k all i = grind (arith, cases_lt, get_or-take, get_or_past, length-take)

pub modes_more : (n : Around) (constrained : Bool) (k : ℕ) (modes : List NearMode) (x : Option ℕ) (v : ℕ) → k < 16 → length modes ≡ 16
    → ((i : ℕ) → i < k → IsMode (get_or modes i absent_motion)) → HasModes n.a → HasModes n.b → IsRem x
    → v ≡ chosen_mode (prediction_near n constrained (take k modes) k) x
    → (i : ℕ) → i < k + 1 → IsMode (get_or (set modes k (mode v)) i absent_motion)
modes_more n constrained k modes x v below long all a b rem chosen i h =
    grind (arith, own_before, small_prediction, small_neighbour, near_left_is_mode, near_above_is_mode, cases_lt, get_or-set_other, get_or-set_at, small_choice)
