-- Two rows of info over one macroblock more, and what is asked of them.
pub mod Common
unfoldable pub use Common.*

-- ---- the entries that are asked for are those of the neighbours

module _ (info : List NeighbourInfo) (width : ℕ) (p : Place) (has_above : Bool) (entries : List (Option NeighbourInfo))
    (keeps : AreRowEntries info width p has_above entries) (slice : ℕ) where
  abbrev picture : PictureInfo
  picture = record { width = width; info = info }

  not_first : p.column ≢ 0 → (length info % width == 0) ≡ false
  not_first some = ne_eqb _ _ (λ e. some (keeps.address ∙ e))

  pub left_is : (entry : Option NeighbourInfo) → p.column ≢ 0 → entry ≡ get_or entries (p.first + (p.column - 1)) entry
      → of_slice slice entry ≡ mb_a picture slice
  left_is entry some read =
      let one : p.column - (p.column - 1) ≡ 1 = omega arith in
      let default = get_or_default entries (p.first + (p.column - 1)) entry None (omega (arith, keeps.inside, keeps.room)) in
      let known = rw one at (keeps.left (p.column - 1) (omega arith)) in
      rw (not_first some, read, default, known) refl

  -- n addresses back, in column k of the row above
  above_found : (k n : ℕ) (entry : Option NeighbourInfo) → has_above ≡ true → n + k ≡ width + p.column → k < width → entry ≡ get_or entries (p.first_above + k) entry
      → of_slice slice entry ≡ of_slice slice (back info n)
  above_found k n entry there place within read =
      let same : width + p.column - k ≡ n = omega arith in
      let default = get_or_default entries (p.first_above + k) entry None (omega (arith, keeps.room_above)) in
      ap (of_slice slice) (read ∙ default ∙ rw same at (keeps.above there k within))

  pub above_is : has_above ≡ true → (entry : Option NeighbourInfo) → entry ≡ get_or entries (p.first_above + p.column) entry
      → of_slice slice entry ≡ mb_b picture slice
  above_is there entry read = above_found p.column width entry there refl keeps.inside read

  pub above_left_is : has_above ≡ true → (entry : Option NeighbourInfo) → p.column ≢ 0 → entry ≡ get_or entries (p.first_above + (p.column - 1)) entry
      → of_slice slice entry ≡ mb_d picture slice
  above_left_is there entry some read = grind (arith, not_first, above_found)

  not_last : p.column + 1 ≢ width → ((length info + 1) % width == 0) ≡ false
  not_last more =
      let place : (length info + 1) % width ≡ p.column + 1 =
      rw (add-one (length info), suc-mod (length info) width, ← keeps.address, ← add-one p.column) (mod-eq_of_lt (omega (arith, keeps.inside))) in
      grind (arith, nat_tests)

  pub above_right_is : has_above ≡ true → (entry : Option NeighbourInfo) → p.column + 1 ≢ width → entry ≡ get_or entries (p.first_above + (p.column + 1)) entry
      → of_slice slice entry ≡ mb_c picture slice
  above_right_is there entry more read = grind (arith, not_last, above_found)

-- ---- two rows of info, over one macroblock more

pub slice_get-append : {X : Type 0} (xs ys : List X) (i : ℕ) → i < length xs → slice_get (xs ++ ys) i ≡ slice_get xs i
slice_get-append [] ys i h = absurd (omega arith)
slice_get-append (x ∷ xs) ys zero h = refl
slice_get-append (x ∷ xs) ys (suc i) h = slice_get-append xs ys i (omega arith)

pub slice_get-next : {X : Type 0} (xs : List X) (y : X) (ys : List X) → slice_get (xs ++ y ∷ ys) (length xs) ≡ Some y
slice_get-next [] y ys = refl
slice_get-next (x ∷ xs) y ys = slice_get-next xs y ys

pub back_none : (info : List NeighbourInfo) (n : ℕ) → length info < n → back info n ≡ None
back_none info n h = grind (arith, nat_tests)

pub back_there : (info : List NeighbourInfo) (n : ℕ) → n ≤ length info → back info n ≡ slice_get info (length info - n)
back_there info n h = grind (arith, nat_tests)

pub back_first : (info : List NeighbourInfo) (f : NeighbourInfo) (n : ℕ) → n ≡ 1 → back (info ++ f ∷ []) n ≡ Some f
back_first info f n one = grind (arith, nat_tests, length-append {A = NeighbourInfo}, slice_get-next info f [])

-- What was n back is one more back.
pub back_more : (info : List NeighbourInfo) (f : NeighbourInfo) (n m : ℕ) → 0 < n → m ≡ n + 1 → back info n ≡ back (info ++ f ∷ []) m
back_more info f n m some more = grind (arith, nat_tests, length-append {A = NeighbourInfo}, slice_get-append info (f ∷ []) (length info - n))

module _ (info : List NeighbourInfo) (f : NeighbourInfo) (width : ℕ) (p : Place) (has_above : Bool) (entries : List (Option NeighbourInfo))
    (keeps : AreRowEntries info width p has_above entries) where
  abbrev entries' : List (Option NeighbourInfo)
  entries' = set entries (p.first + p.column) (Some f)

  long : length entries' ≡ length entries
  long = length-set entries (p.first + p.column) (Some f)

  -- the row with one macroblock more
  left' : (next : ℕ) → next ≡ p.column + 1 → (k : ℕ) → k < next → get_or entries' (p.first + k) None ≡ back (info ++ f ∷ []) (next - k)
  left' next more k h = grind (arith, cases_lt, get_or-set_other, back_more, get_or-set_same, back_first)

  -- the row above, which stays as it was
  above' : has_above ≡ true → (k : ℕ) → k < width → get_or entries' (p.first_above + k) None ≡ back (info ++ f ∷ []) (width + (p.column + 1) - k)
  above' there k h =
      get_or-set_other entries (p.first + p.column) (p.first_above + k) (Some f) None (λ e. keeps.apart p.column k keeps.inside h (sym e))
      ∙ keeps.above there k h
      ∙ back_more info f (width + p.column - k) (width + (p.column + 1) - k) (omega arith) (omega arith)

  more_mod : (next : ℕ) → next ≡ suc p.column % width → next ≡ length (info ++ f ∷ []) % width
  more_mod next is =
      rw (length-append info (f ∷ []), add-one (length info), suc-mod (length info) width, ← keeps.address) is

  -- in the row
  within : p.column + 1 < width
      → AreRowEntries (info ++ f ∷ []) width (record { column = p.column + 1; first = p.first; first_above = p.first_above }) has_above entries'
  within h = grind (arith, more_mod, add-one, mod-eq_of_lt, long, left', length-append, above')

  -- at its end
  at_end : p.column + 1 ≡ width
      → AreRowEntries (info ++ f ∷ []) width (record { column = 0; first = p.first_above; first_above = p.first }) true entries'
  at_end last = record {
    inside = omega arith;
    address = more_mod 0 (sym (mod_self width) ∙ ap (λ n. n % width) (sym last ∙ add-one p.column));
    room = omega (arith, long, keeps.room_above);
    room_above = omega (arith, long, keeps.room);
    apart = λ j k in_row in_row_above e. keeps.apart k j in_row_above in_row (sym e);
    left = λ k none. absurd (omega arith);
    first_row = λ none. absurd (cc);
    above = λ _ k h. left' (p.column + 1) refl k (omega arith) ∙ ap (λ n. back (info ++ f ∷ []) n) (omega arith);
  }

  pub keeps_more : (info' : List NeighbourInfo) (next : Place) (has_above' : Bool) → info' ≡ info ++ f ∷ [] → next ≡ place_after p width
      → has_above' ≡ ((next.column == 0) || has_above) → AreRowEntries info' width next has_above' entries'
  keeps_more info' next has_above' info_is next_is above_is = elim (cases_lt (p.column + 1) width) [
    | inl h ↦
        let t : nat_lt (p.column + 1) width ≡ true = grind (arith, nat_tests) in
        let e : next ≡ record { column = p.column + 1; first = p.first; first_above = p.first_above } = rw t at next_is in
        let more : (p.column + 1 == 0) ≡ false = grind (arith, nat_tests) in
        let same : has_above' ≡ has_above = above_is ∙ ap (λ (q : Place). (q.column == 0) || has_above) e ∙ ap (λ b. b || has_above) more in
        rw (info_is, e, same) (within h)
    | inr h ↦
        let t : nat_lt (p.column + 1) width ≡ false = grind (arith, nat_tests) in
        let e : next ≡ record { column = 0; first = p.first_above; first_above = p.first } = rw t at next_is in
        let same : has_above' ≡ true = above_is ∙ ap (λ (q : Place). (q.column == 0) || has_above) e in
        rw (info_is, e, same) (at_end (omega (arith, keeps.inside)))
  ]

-- ---- where the neighbours of a macroblock lie, by sample coordinates and by address

abbrev pub place_of : (b u v : ℕ) → Location
place_of b u v = record { address = b; x = u; y = v }

at_place : (width r c u v : ℕ) (x y : ℤ) → x ≡ pos (16 * c + u) → y ≡ pos (16 * r + v) → u < 16 → v < 16 → c < width
    → location_in 16 width x y ≡ Some (place_of (r * width + c) u v)
at_place width r c u v x y column row hu hv inside = grind (arith, lt-ltb)

pub left_off : (width : ℕ) (x y : ℤ) → x ≡ negsuc 0 → location_in 16 width x y ≡ None
left_off width x y e = rw e refl

pub up_off : (width : ℕ) (x y : ℤ) → y ≡ negsuc 0 → location_in 16 width x y ≡ None
up_off width (pos x) y e = rw e refl
up_off width (negsuc x) y e = refl

right_off : (width : ℕ) (x y : ℤ) → x ≡ pos (16 * width) → location_in 16 width x y ≡ None
right_off width x (pos y) e = let t : nat_lt (16 * width) (16 * width) ≡ false = le-ltb _ _ (omega arith) in rw (e, t) refl
right_off width x (negsuc y) e = rw e refl

-- the first row, or another
above_row : (width r c n : ℕ) → n ≡ r * width + c → c < width
    → ((r ≡ 0) × (n ≡ c)) ⊎ ((q : ℕ) × (r ≡ q + 1) × (n ≡ q * width + c + width))
above_row width zero c n e h = inl (refl, omega arith)
above_row width (suc q) c n e h = inr (q, sym (add-one q), omega arith)

-- The location is in a macroblock before the next one, at (u, v) in it, and the neighbour is that macroblock; or there is neither.
abbrev pub Matches : List NeighbourInfo → (slice : ℕ) → Option Location → Option NeighbourInfo → (u v : ℕ) → Type 0
Matches info slice l n u v =
    ((l ≡ None) × (n ≡ None)) ⊎ ((b : ℕ) × (b < length info) × (l ≡ Some (place_of b u v)) × (n ≡ of_slice slice (slice_get info b)))

module _ (width : ℕ) (info : List NeighbourInfo) (slice r c : ℕ) (column : length info % width ≡ c) (row : length info / width ≡ r)
    (place : length info ≡ r * width + c) (inside : c < width) where
  abbrev picture_by_address : PictureInfo
  picture_by_address = record { width = width; info = info }

  -- the sample's place in the picture_by_address
  abbrev across : ℤ → ℤ
  across x = pos (16 * (length info % width)) +ℤ x

  abbrev down : ℤ → ℤ
  down y = pos (16 * (length info / width)) +ℤ y

  back_at : (n b : ℕ) → length info ≡ b + n → of_slice slice (back info n) ≡ of_slice slice (slice_get info b)
  back_at n b e = ap (of_slice slice) (back_there info n (omega arith) ∙ ap (slice_get info) (omega arith))

  -- n addresses back, in column k of the row above
  match_above : (k n u : ℕ) (x : ℤ) → across x ≡ pos (16 * k + u) → u < 16 → k < width → n + k ≡ c + width
      → Matches info slice (location_at width (length info) x (negsuc 0)) (of_slice slice (back info n)) u 15
  match_above k n u x at small within back_by = elim (above_row width r c (length info) place inside) [
    | inl first ↦ inl (up_off width (across x) (down (negsuc 0)) (omega (arith, ints, row, first.0)), rw (back_none info n (omega (arith, first.1))) refl)
    | inr later ↦ inr (
      later.0 * width + k,
      omega (arith, later.2, inside),
      at_place width later.0 k u 15 (across x) (down (negsuc 0)) at (omega (arith, ints, row, later.1)) small (lit< tt) within,
      back_at n (later.0 * width + k) (omega (arith, later.2)),
    )
  ]

  in_first_column : c ≡ 0 → (length info % width == 0) ≡ true
  in_first_column none = eq-eqb _ _ (column ∙ none)

  in_later_column : (c ≡ 0 → ⊥) → (length info % width == 0) ≡ false
  in_later_column some = ne_eqb _ _ (λ e. some (sym column ∙ e))

  column_after : (length info + 1) % width ≡ (c + 1) % width
  column_after = rw (add-one (length info), suc-mod (length info) width, column, add-one c) refl

  pub match_a : (y : ℕ) → y < 16 → Matches info slice (location_at width (length info) (negsuc 0) (pos y)) (mb_a picture_by_address slice) 15 y
  match_a y h = grind (arith, cases_eq, left_off, negsuc, in_first_column, place, at_place, lit<, in_later_column, back_at)

  pub match_b : (x : ℕ) → x < 16 → Matches info slice (location_at width (length info) (pos x) (negsuc 0)) (mb_b picture_by_address slice) x 15
  match_b x h = match_above c width x (pos x) (omega (arith, ints, column)) h inside (omega arith)

  pub match_c : Matches info slice (location_at width (length info) (pos 16) (negsuc 0)) (mb_c picture_by_address slice) 0 15
  match_c = elim (cases_lt (c + 1) width) [
    | inl more ↦
        let t : ((length info + 1) % width == 0) ≡ false = ne_eqb _ _ (λ e. absurd (omega (arith, column_after, mod-eq_of_lt more, e))) in
        rw t (match_above (c + 1) (width - 1) 0 (pos 16) (omega (arith, ints, column)) (lit< tt) more (omega arith))
    | inr last ↦
        let same : c + 1 ≡ width = omega (arith, inside, last) in
        let t : ((length info + 1) % width == 0) ≡ true = eq-eqb _ _ (column_after ∙ ap (λ n. n % width) same ∙ mod_self width) in
        inl (right_off width (across (pos 16)) (down (negsuc 0)) (omega (arith, ints, column, same)), rw t refl)
  ]

  pub match_d : Matches info slice (location_at width (length info) (negsuc 0) (negsuc 0)) (mb_d picture_by_address slice) 15 15
  match_d = elim (cases_eq c 0) [
    | inl none ↦ inl (left_off width (across (negsuc 0)) (down (negsuc 0)) (omega (arith, ints, column, none)), rw (in_first_column none) refl)
    | inr some ↦
        rw (in_later_column some)
        (match_above (c - 1) (width + 1) 15 (negsuc 0) (omega (arith, ints, column, some)) (lit< tt) (omega (arith, inside)) (omega (arith, some)))
  ]

  -- inside, and to the right of the macroblock
  pub at_itself : (x y : ℕ) → x < 16 → y < 16 → location_at width (length info) (pos x) (pos y) ≡ Some (place_of (length info) x y)
  at_itself x y hx hy = grind (arith, at_place, place)

  pub at_right : (y : ℕ) → y < 16
      → (location_at width (length info) (pos 16) (pos y) ≡ None)
      ⊎ (location_at width (length info) (pos 16) (pos y) ≡ Some (place_of (length info + 1) 0 y))
  at_right y h = grind (arith, cases_lt, at_place, lit<, place, right_off)
