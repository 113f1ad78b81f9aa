-- Where decoding can start among the units that come, and the parameter sets in force there.
pub mod Common
unfoldable pub use Common.*
use Rattle.avc_tools.specs.Stages.{waiting}
use Rattle.avc_units.specs.Grouping.{pps, sps}

-- ---- no unit of a stream is longer than the stream

-- with its body or without
abbrev piece_made : ℕ → PlacedUnit → Bool → Piece
piece_made index u whole = record {
  index = saturated index;
  offset = saturated u.offset;
  length = saturated (length u.bytes);
  header = slice_index u.bytes 0;
  body = elim whole [ true ↦ Some (drop 1 u.bytes) | false ↦ None ];
}

same_units : (few many index : ℕ) (us : List PlacedUnit) → few ≤ many → All (IsShort few) us → numbered many index us ≡ numbered few index us
same_units few many index [] le short = refl
same_units few many index (u ∷ us) le short =
    let here = (All-head (IsShort few) u us short).few in
    ap₂ (λ whole others. piece_made index u whole ∷ others)
    (le-leb (length u.bytes) many (omega (arith, here, le)) ∙ sym (le-leb (length u.bytes) few here))
    (same_units few many (index + 1) us le (All-tail (IsShort few) u us short))

-- So they are all there, where the greatest length is that of the stream or more.
pub whole_units : (many : ℕ) (bytes : List ℕ) (ended : Bool) → length bytes ≤ many → units many bytes ended ≡ units (length bytes) bytes ended
whole_units many bytes ended le = same_units (length bytes) many 0 (placed_units 0 ended bytes) le (are_short (length bytes) 0 ended bytes (omega arith))

-- ---- where the slices among units end, and where decoding can start; and one piece unit by unit is what the definition says

pub stops : {X : Type 0} (p : X → Bool) (x : X) (xs : List X) → p x ≡ false → take_while p (x ∷ xs) ≡ []
stops p x xs e = rw (take_while-cons, e) refl

pub goes_on : {X : Type 0} (p : X → Bool) (x : X) (xs : List X) → p x ≡ true → take_while p (x ∷ xs) ≡ x ∷ take_while p xs
goes_on p x xs e = rw (take_while-cons, e) refl

abbrev is_other : Unit → Bool
is_other u = not (is_slice u)

-- what stands through the last slice, from the units in reverse and those of them before the first slice
abbrev behind : (others reversed : List Unit) → List Unit
behind others reversed = reverse (drop (length (reverse others)) reversed)

-- from the units in reverse alone
abbrev through : (reversed : List Unit) → List Unit
through reversed = behind (take_while is_other reversed) reversed

pub through_slice : (us : List Unit) (u : Unit) → is_slice u ≡ true → through_slices (us ++ u ∷ []) ≡ us ++ u ∷ []
through_slice us u is =
    ap through (reverse-append us (u ∷ [])) ∙ ap (λ others. behind others (u ∷ reverse us)) (stops is_other u (reverse us) (ap not is))
    ∙ ap reverse (sym (reverse-append us (u ∷ []))) ∙ reverse-reverse (us ++ u ∷ [])

one_less : (t r : List Unit) (u : Unit) → behind (u ∷ t) (u ∷ r) ≡ behind t r
one_less t r u = ap (λ n. reverse (drop n (u ∷ r))) (length-reverse (u ∷ t) ∙ ap suc (sym (length-reverse t)))

pub through_other : (us : List Unit) (u : Unit) → is_slice u ≡ false → through_slices (us ++ u ∷ []) ≡ through_slices us
through_other us u is =
    ap through (reverse-append us (u ∷ [])) ∙ ap (λ others. behind others (u ∷ reverse us)) (goes_on is_other u (reverse us) (ap not is))
    ∙ one_less (take_while is_other (reverse us)) (reverse us) u

front_and_rest : {X : Type 0} (p : X → Bool) (xs : List X) → take_while p xs ++ drop (length (take_while p xs)) xs ≡ xs
front_and_rest p [] = refl
front_and_rest p (x ∷ xs) = rw take_while-cons (grind (arith, front_and_rest p xs))

pub after_slice : (us : List Unit) (u : Unit) → is_slice u ≡ true → after_slices (us ++ u ∷ []) ≡ []
after_slice us u is = ap (λ r. reverse (take_while is_other r)) (reverse-append us (u ∷ [])) ∙ ap reverse (stops is_other u (reverse us) (ap not is))

pub after_other : (us : List Unit) (u : Unit) → is_slice u ≡ false → after_slices (us ++ u ∷ []) ≡ after_slices us ++ u ∷ []
after_other us u is = rw (reverse-append us (u ∷ []), goes_on is_other u (reverse us) (ap not is)) (reverse-append (u ∷ []) (take_while is_other (reverse us)))

pub split_at_slices : (us : List Unit) → through_slices us ++ after_slices us ≡ us
split_at_slices us =
    let others = take_while is_other (reverse us) in
    sym (reverse-append others (drop (length (reverse others)) (reverse us)))
    ∙ rw (length-reverse, front_and_rest is_other (reverse us), reverse-reverse) refl

pub through_is_front : (us : List Unit) → through_slices us ≡ take (length (through_slices us)) us
through_is_front us = sym (take-append_seam (through_slices us) (after_slices us)) ∙ ap (take (length (through_slices us))) (split_at_slices us)

pub after_is_rest : (us : List Unit) → after_slices us ≡ drop (length (through_slices us)) us
after_is_rest us = sym (drop-append_seam (through_slices us) (after_slices us)) ∙ ap (drop (length (through_slices us))) (split_at_slices us)

-- ---- up to the next unit with which decoding can start

abbrev pub goes_before : Unit → Bool
goes_before u = not (is_start u)

-- how many units stand before it
abbrev pub before_start : List Unit → ℕ
before_start us = length (take_while not (map is_start us))

by_flag : (us : List Unit) (u : Unit) (b : Bool) → is_start u ≡ b → before_start (u ∷ us) ≡ cond (not b) (suc (before_start us)) 0
by_flag us u b e = grind (arith, take_while-cons {X = Bool})

pub front_before_start : (us : List Unit) → take_while goes_before us ≡ take (before_start us) us
front_before_start [] = refl
front_before_start (u ∷ us) = rw (take_while-cons goes_before u us, by_flag us u (is_start u) refl) (grind (arith, front_before_start us))

one_starts : (us : List Unit) → before_start us < length us → list_any is_start us ≡ true
one_starts [] low = absurd (omega (arith, low))
one_starts (u ∷ us) low = grind (arith, by_flag us u, one_starts us)

none_starts : (us : List Unit) → length us ≤ before_start us → list_any is_start us ≡ false
none_starts [] low = refl
none_starts (u ∷ us) low = grind (arith, by_flag us u, none_starts us)

abbrev pub rest_by : Bool → (after us : List Unit) → List Unit
rest_by starts after us = if starts then through_slices us ++ filter (λ u. not (is_left_out u)) (after_slices us) else after

pub rest_all : (after : List Unit) → length after ≤ before_start after → rest_of_piece after ≡ after
rest_all after low = ap (λ b. rest_by b after (take_while goes_before after)) (none_starts after low)

abbrev pub stays : Unit → Bool
stays u = not (is_left_out u)

rest_cut : (after : List Unit) → before_start after < length after →
    rest_of_piece after ≡ through_slices (take (before_start after) after) ++ filter stays (after_slices (take (before_start after) after))
rest_cut after low =
    ap (λ b. rest_by b after (take_while goes_before after)) (one_starts after low)
    ∙ ap (rest_by true after) (front_before_start after)

-- a slice's part from a place on
pub part_from : {X : Type 0} (n : ℕ) (xs : List X) → take (length xs - n) (drop n xs) ≡ drop n xs
part_from n xs = ap (λ k. take k (drop n xs)) (sym (length-drop n xs)) ∙ take-length (drop n xs)

-- the rest of a piece is written, in two parts
pub rest_written : (after : List Unit) (n kept : ℕ) (old one both : List ℕ) → n ≡ before_start after → n < length after → kept ≡ length (through_slices (take n after))
    → one ≡ old ++ flat_map written (take kept (take n after)) → both ≡ one ++ flat_map written (filter (λ u. not (is_left_out u)) (take (length (take n after) - kept) (drop kept (take n after))))
    → both ≡ old ++ flat_map written (rest_of_piece after)
rest_written after n kept old one both is low is_kept first second =
    let us = take n after in
    let front = through_slices us in
    let left = filter stays (after_slices us) in
    let rest : rest_of_piece after ≡ front ++ left =
    rest_cut after (subst (λ k. k < length after) is low)
    ∙ ap (λ k. through_slices (take k after) ++ filter stays (after_slices (take k after))) (sym is) in
    let through_front : take kept us ≡ front = ap (λ k. take k us) is_kept ∙ sym (through_is_front us) in
    let behind_front : take (length us - kept) (drop kept us) ≡ after_slices us = part_from kept us ∙ ap (λ k. drop k us) is_kept ∙ sym (after_is_rest us) in
    second ∙ ap (λ l. one ++ flat_map written (filter stays l)) behind_front
    ∙ ap (λ l. l ++ flat_map written left) (first ∙ ap (λ l. old ++ flat_map written l) through_front)
    ∙ append_assoc old (flat_map written front) (flat_map written left)
    ∙ ap (λ l. old ++ l) (sym (flat_map-append written front left) ∙ ap (flat_map written) (sym rest))

-- ---- one piece unit by unit is what the definition says: stages

pub after-append : (s : Stage) (us vs : List Unit) → stage_after s (us ++ vs) ≡ stage_after (stage_after s us) vs
after-append s [] vs = refl
after-append s (u ∷ us) vs = after-append (next s u) us vs

over_stays : (before : List Unit) (c : Unit) (after us : List Unit) → stage_after (over before c after) us ≡ over before c after
over_stays before c after [] = refl
over_stays before c after (u ∷ us) = over_stays before c after us

abbrev waiting_next : (starts : Bool) → (left : ℕ) (before : List Unit) (u : Unit) → Stage
waiting_next starts left before u = if starts then begun left before u else waiting left (before ++ u ∷ [])

-- ---- the rest of a piece so far

no_start_more : (a : List Unit) (u : Unit) → list_any is_start a ≡ false → is_start u ≡ false → list_any is_start (a ++ u ∷ []) ≡ false
no_start_more a u none e = grind (arith, list_any-append)

a_start : (a : List Unit) (u : Unit) (us : List Unit) → list_any is_start a ≡ false → is_start u ≡ true → list_any is_start (a ++ u ∷ us) ≡ true
a_start a u us none e = grind (arith, list_any-append)

before_it : (a : List Unit) (u : Unit) (us : List Unit) → list_any is_start a ≡ false → is_start u ≡ true → take_while goes_before (a ++ u ∷ us) ≡ a
before_it [] u us none e = stops goes_before u us (ap not e)
before_it (v ∷ a) u us none e = grind (arith, take_while-cons goes_before v (a ++ u ∷ us), before_it a u us)

abbrev rest_if : (ended starts : Bool) → (after : List Unit) → List Unit
rest_if ended starts after = if ended || starts then rest_of_piece after else through_slices after

none_yet : (a : List Unit) (ended : Bool) → list_any is_start a ≡ false → rest_so_far a ended ≡ (if ended then a else through_slices a)
none_yet a true none = rw none refl
none_yet a false none = rw none refl

rest_cut_at : (a : List Unit) (u : Unit) (us : List Unit) → list_any is_start a ≡ false → is_start u ≡ true → rest_of_piece (a ++ u ∷ us) ≡ through_slices a ++ staying a
rest_cut_at a u us none e =
    ap (λ b. rest_by b (a ++ u ∷ us) (take_while goes_before (a ++ u ∷ us))) (a_start a u us none e)
    ∙ ap (rest_by true (a ++ u ∷ us)) (before_it a u us none e)

next_begun : (a : List Unit) (u : Unit) (us : List Unit) (ended : Bool) → list_any is_start a ≡ false → is_start u ≡ true → rest_so_far (a ++ u ∷ us) ended ≡ through_slices a ++ staying a
next_begun a u us true none e = rest_cut_at a u us none e
next_begun a u us false none e = ap (λ b. rest_if false b (a ++ u ∷ us)) (a_start a u us none e) ∙ rest_cut_at a u us none e

-- ---- the piece

written_is : (before : List Unit) (c : Unit) (a us : List Unit) (ended : Bool) → list_any is_start a ≡ false
    → piece_of (stage_after (writing before c a) us) ended ≡ Some (made before c (rest_so_far (a ++ us) ended))
written_is before c a [] ended none =
    ap (λ l. Some (made before c l)) (sym (none_yet a ended none) ∙ ap (λ l. rest_so_far l ended) (sym (append-nil a)))
written_is before c a (u ∷ us) ended none =
    by (is_start u) refl (written_is before c (a ++ u ∷ []) us ended)
  where
    by : (b : Bool) → is_start u ≡ b
        → (list_any is_start (a ++ u ∷ []) ≡ false → piece_of (stage_after (writing before c (a ++ u ∷ [])) us) ended ≡ Some (made before c (rest_so_far ((a ++ u ∷ []) ++ us) ended)))
        → piece_of (stage_after (writing before c a) (u ∷ us)) ended ≡ Some (made before c (rest_so_far (a ++ u ∷ us) ended))
    by true e h = rw (e, over_stays before c a us) (ap (λ l. Some (made before c l)) (sym (next_begun a u us ended none e)))
    by false e h = rw e (h (no_start_more a u none e) ∙ ap (λ l. Some (made before c (rest_so_far l ended))) (append_assoc a (u ∷ []) us))

abbrev listed : (starts : Bool) → (x : List ℕ) (others : List (List ℕ)) → List (List ℕ)
listed starts x others = elim starts [ true ↦ x ∷ others | false ↦ others ]

abbrev first_in : (before : List Unit) (u : Unit) (us : List Unit) (ended : Bool) → List ℕ
first_in before u us ended = flat_map written (piece_so_far before u us ended)

abbrev others_in : (before : List Unit) (u : Unit) (us : List Unit) (ended : Bool) → List (List ℕ)
others_in before u us ended = pieces_so_far_from (before ++ u ∷ []) us ended

piece_is : (left : ℕ) (before us : List Unit) (ended : Bool) → slice_get (pieces_so_far_from before us ended) left ≡ piece_of (stage_after (waiting left before) us) ended
piece_is left before [] ended = refl
piece_is left before (u ∷ us) ended = by (is_start u) left (λ n. piece_is n (before ++ u ∷ []) us ended)
  where
    by : (b : Bool) (n : ℕ) → ((m : ℕ) → slice_get (others_in before u us ended) m ≡ piece_of (stage_after (waiting m (before ++ u ∷ [])) us) ended)
        → slice_get (listed b (first_in before u us ended) (others_in before u us ended)) n ≡ piece_of (stage_after (waiting_next b n before u) us) ended
    by false n h = h n
    by true zero h = sym (written_is before u [] us ended refl)
    by true (suc n) h = h n

-- ---- whether it is over

abbrev pub is_over : Stage → Bool
is_over (over before c after) = true
is_over _ = false

over_when : (before : List Unit) (c : Unit) (a us : List Unit) → is_over (stage_after (writing before c a) us) ≡ list_any is_start us
over_when before c a [] = refl
over_when before c a (u ∷ us) = grind (arith, over_when before c (a ++ u ∷ []) us, over_stays before c a us)

first_when : (before us : List Unit) (ended : Bool) → is_some (slice_get (pieces_so_far_from before us ended) 0) ≡ list_any is_start us
first_when before [] ended = refl
first_when before (u ∷ us) ended = by (is_start u) (first_when (before ++ u ∷ []) us ended)
  where
    by : (b : Bool) → is_some (slice_get (others_in before u us ended) 0) ≡ list_any is_start us → is_some (slice_get (listed b (first_in before u us ended) (others_in before u us ended)) 0) ≡ (b || list_any is_start us)
    by true h = refl
    by false h = h

next_is : (left : ℕ) (before us : List Unit) (ended : Bool) → is_some (slice_get (pieces_so_far_from before us ended) (suc left)) ≡ is_over (stage_after (waiting left before) us)
next_is left before [] ended = refl
next_is left before (u ∷ us) ended = by (is_start u) left (λ n. next_is n (before ++ u ∷ []) us ended)
  where
    by : (b : Bool) (n : ℕ) → ((m : ℕ) → is_some (slice_get (others_in before u us ended) (suc m)) ≡ is_over (stage_after (waiting m (before ++ u ∷ [])) us))
        → is_some (slice_get (listed b (first_in before u us ended) (others_in before u us ended)) (suc n)) ≡ is_over (stage_after (waiting_next b n before u) us)
    by false n h = h n
    by true zero h = first_when (before ++ u ∷ []) us ended ∙ sym (over_when before u [] us)
    by true (suc n) h = h n

-- ---- by the bytes of a stream

abbrev pub stage_at : (max number : ℕ) → List ℕ → (ended : Bool) → Stage
stage_at max number bytes ended = stage_after (waiting number []) (units max bytes ended)

pub numbered_is : (max number : ℕ) (bytes : List ℕ) (ended : Bool) → length bytes ≤ max → numbered_piece number bytes ended ≡ piece_of (stage_at max number bytes ended) ended
numbered_is max number bytes ended short =
    ap (λ us. slice_get (pieces_so_far_from [] us ended) number) (sym (whole_units max bytes ended short)) ∙ piece_is number [] (units max bytes ended) ended

pub over_is : (max number : ℕ) (bytes : List ℕ) (ended : Bool) → length bytes ≤ max → piece_is_over number bytes ended ≡ is_over (stage_at max number bytes ended)
over_is max number bytes ended short =
    ap (λ n. is_some (numbered_piece n bytes ended)) (omega arith)
    ∙ ap (λ us. is_some (slice_get (pieces_so_far_from [] us ended) (suc number))) (sym (whole_units max bytes ended short)) ∙ next_is number [] (units max bytes ended) ended

-- ---- more comes to it

made-append : (before : List Unit) (c : Unit) (x y : List Unit) → made before c (x ++ y) ≡ made before c x ++ flat_map written y
made-append before c x y =
    let front = sets_in_force before ++ filter leads (after_slices before) in
    ap (flat_map written) (sym (append_assoc front (c ∷ x) y)) ∙ flat_map-append written (front ++ c ∷ x) y

pub added_at_end : (before : List Unit) (c : Unit) (a : List Unit) → made before c a ≡ made before c (through_slices a) ++ flat_map written (after_slices a)
added_at_end before c a = ap (made before c) (sym (split_at_slices a)) ∙ made-append before c (through_slices a) (after_slices a)

pub added_by_slice : (before : List Unit) (c : Unit) (a : List Unit) (u : Unit) → is_slice u ≡ true
    → made before c (through_slices (a ++ u ∷ [])) ≡ made before c (through_slices a) ++ (flat_map written (after_slices a) ++ flat_map written (u ∷ []))
added_by_slice before c a u e =
    ap (made before c) (through_slice a u e) ∙ made-append before c a (u ∷ []) ∙ ap (λ t. t ++ flat_map written (u ∷ [])) (added_at_end before c a)
    ∙ append_assoc (made before c (through_slices a)) (flat_map written (after_slices a)) (flat_map written (u ∷ []))

pub added_by_next : (before : List Unit) (c : Unit) (a : List Unit) → made before c (through_slices a ++ staying a) ≡ made before c (through_slices a) ++ flat_map written (staying a)
added_by_next before c a = made-append before c (through_slices a) (staying a)

through_more : (before : List Unit) (c : Unit) (a : List Unit) (u : Unit) → (more : List ℕ) × (made before c (through_slices (a ++ u ∷ [])) ≡ made before c (through_slices a) ++ more)
through_more before c a u = by (is_slice u) refl
  where
    by : (b : Bool) → is_slice u ≡ b → (more : List ℕ) × (made before c (through_slices (a ++ u ∷ [])) ≡ made before c (through_slices a) ++ more)
    by true e = (_, added_by_slice before c a u e)
    by false e = ([], ap (made before c) (through_other a u e) ∙ sym (append-nil (made before c (through_slices a))))

abbrev Grows : Stage → List Unit → Bool → Type 0
Grows s us ended = (others : List ℕ) × (text_of (stage_after s us) ended ≡ text_of s false ++ others)

grows_written : (before : List Unit) (c : Unit) (a us : List Unit) (ended : Bool) → Grows (writing before c a) us ended
grows_written before c a [] true = (flat_map written (after_slices a), added_at_end before c a)
grows_written before c a [] false = ([], sym (append-nil (made before c (through_slices a))))
grows_written before c a (u ∷ us) ended = by (is_start u) refl (grows_written before c (a ++ u ∷ []) us ended)
  where
    by : (b : Bool) → is_start u ≡ b → Grows (writing before c (a ++ u ∷ [])) us ended → Grows (writing before c a) (u ∷ us) ended
    by true e h = (flat_map written (staying a), rw (e, over_stays before c a us) (added_by_next before c a))
    by false e h = let more = through_more before c a u in (more.0 ++ h.0, rw e (h.1 ∙ ap (λ t. t ++ h.0) more.1 ∙ append_assoc (made before c (through_slices a)) more.0 h.0))

pub grows : (s : Stage) (us : List Unit) (ended : Bool) → Grows s us ended
grows (waiting left before) us ended = (text_of (stage_after (waiting left before) us) ended, refl)
grows (writing before c a) us ended = grows_written before c a us ended
grows (over before c a) us ended = ([], ap (λ s. text_of s ended) (over_stays before c a us) ∙ sym (append-nil (text_of (over before c a) false)))

-- What units add that come to others comes behind what these brought.
pub text_behind : (max number : ℕ) (bytes front : List ℕ) (ended front_ended : Bool) (more : List Unit) (added : List ℕ)
    → length bytes ≤ max → length front ≤ max → front_ended ≡ false → units max bytes ended ≡ units max front front_ended ++ more
    → text_of (stage_after (stage_at max number front front_ended) more) ended ≡ text_of (stage_at max number front front_ended) false ++ added
    → piece_text number bytes ended ≡ piece_text number front front_ended ++ added
text_behind max number bytes front ended front_ended more added short front_short going is adds =
    ap bytes_of (numbered_is max number bytes ended short)
    ∙ ap (λ us. text_of (stage_after (waiting number []) us) ended) is
    ∙ ap (λ t. text_of t ended) (after-append (waiting number []) (units max front front_ended) more)
    ∙ adds ∙ ap (λ e. text_of (stage_at max number front front_ended) e ++ added) (sym going)
    ∙ ap (λ p. bytes_of p ++ added) (sym (numbered_is max number front front_ended front_short))

pub piece_text_grows : UnitsStay → (number : ℕ) → OnlyGrows (piece_text number)
piece_text_grows stay number bytes more ended short =
    let max = length (bytes ++ more) in
    let later = stay max bytes more ended in
    let rest = grows (stage_at max number bytes false) later.0 ended in
    let fits : length bytes ≤ max = omega (arith, length-append bytes more) in
    (rest.0, text_behind max number (bytes ++ more) bytes ended false later.0 rest.0 (omega arith) fits refl later.1 rest.1)

-- ---- laws of pieces

all_so_far : (before us : List Unit) → pieces_so_far_from before us true ≡ pieces_from before us
all_so_far before [] = refl
all_so_far before (u ∷ us) = ap (λ others. listed (is_start u) (flat_map written (piece before u us)) others) (all_so_far (before ++ u ∷ []) us)

pub pieces_are_whole : PiecesAreWhole
pieces_are_whole bytes = all_so_far [] (units (length bytes) bytes true)

stays_over : (s : Stage) (us : List Unit) → is_over s ≡ true → piece_of (stage_after s us) true ≡ Some (text_of s false)
stays_over (over before c a) us e = ap (λ s. piece_of s true) (over_stays before c a us)
stays_over _ us e = cc

pub pieces_stay : UnitsStay → PiecesStay
pieces_stay stay number bytes more is =
    let max = length (bytes ++ more) in
    let later = stay max bytes more true in
    let s = stage_at max number bytes false in
    let short : length bytes ≤ max = omega (arith, length-append bytes more) in
    ap (λ ps. slice_get ps number) (sym (pieces_are_whole (bytes ++ more)))
    ∙ numbered_is max number (bytes ++ more) true (omega arith)
    ∙ ap (λ us. piece_of (stage_after (waiting number []) us) true) later.1
    ∙ ap (λ t. piece_of t true) (after-append (waiting number []) (units max bytes false) later.0)
    ∙ stays_over s later.0 (sym (over_is max number bytes false short) ∙ is)
    ∙ ap (λ p. Some (bytes_of p)) (sym (numbered_is max number bytes false short))

-- ---- the units that come with more bytes, or with the end

-- No line tells of a body, so it makes no difference how long a body is kept.
same_lines : (form : UnitFacts → List ℕ) (few many index : ℕ) (all : List PlacedUnit) → flat_map (line_of_unit form) (numbered few index all) ≡ flat_map (line_of_unit form) (numbered many index all)
same_lines form few many index [] = refl
same_lines form few many index (u ∷ us) = ap (λ t. line_of_unit form (unit_of many index u) ++ t) (same_lines form few many (index + 1) us)

pub unit_lines_are : (form : UnitFacts → List ℕ) (max : ℕ) (bytes : List ℕ) (ended : Bool) → flat_map (line_of_unit form) (units max bytes ended) ≡ unit_lines_so_far form bytes ended
unit_lines_are form max bytes ended = same_lines form max (length bytes) 0 (placed_units 0 ended bytes)

-- More has come where nothing was left: the units that are left now come to those before.
left_behind : (max : ℕ) (old new : SplitterState) (others : List Unit) → IsDrained max old
    → units max new.bytes new.ended ≡ units max old.bytes old.ended ++ others → new.taken ≡ old.taken → new.failed ≡ old.failed → length old.bytes ≤ length new.bytes
    → AreLeft max old new
left_behind max old new others d is count fails no_fewer =
    let before = units max old.bytes old.ended in
    let taken = count ∙ d.taken in
    let left : units_left max new ≡ others = ap (λ n. drop n (units max new.bytes new.ended)) taken ∙ ap (drop (length before)) is ∙ drop-append_seam before others in
    record { all = is ∙ ap (λ l. before ++ l) (sym left); taken = taken; going = fails ∙ d.going; no_fewer = no_fewer }

abbrev pub splitter_at : (bytes : List ℕ) (ended : Bool) (taken : ℕ) (failed : Bool) → SplitterState
splitter_at bytes ended taken failed = record { bytes = bytes; ended = ended; taken = taken; failed = failed }

fed : UnitsStay → (max : ℕ) (bytes : List ℕ) (ended : Bool) (taken : ℕ) (failed : Bool) (piece : List ℕ) → IsDrained max (splitter_at bytes ended taken failed)
    → AreLeft max (splitter_at bytes ended taken failed) (after_feed (splitter_at bytes ended taken failed) piece)
fed stay max bytes true taken failed piece d = left_behind max _ _ [] d (sym (append-nil (units max bytes true))) refl refl (omega arith)
fed stay max bytes false taken failed piece d =
    let more = stay max bytes piece false in
    left_behind max _ _ more.0 d more.1 refl refl (omega (arith, length-append bytes piece))

-- by a piece
pub left_by_feed : UnitsStay → (max : ℕ) (old new : SplitterState) (piece : List ℕ) → IsDrained max old → new ≡ after_feed old piece → AreLeft max old new
left_by_feed stay max old new piece d is = rw is (fed stay max old.bytes old.ended old.taken old.failed piece d)

finished : UnitsStay → (max : ℕ) (bytes : List ℕ) (ended : Bool) (taken : ℕ) (failed : Bool) → IsDrained max (splitter_at bytes ended taken failed)
    → AreLeft max (splitter_at bytes ended taken failed) (splitter_at bytes true taken failed)
finished stay max bytes true taken failed d = left_behind max _ _ [] d (sym (append-nil (units max bytes true))) refl refl (omega arith)
finished stay max bytes false taken failed d =
    let more = stay max bytes [] true in
    left_behind max _ _ more.0 d (rw (append-nil bytes) at more.1) refl refl (omega arith)

-- by the end
pub left_by_finish : UnitsStay → (max : ℕ) (old new : SplitterState) → IsDrained max old → new ≡ after_finish old → AreLeft max old new
left_by_finish stay max old new d is = rw is (finished stay max old.bytes old.ended old.taken old.failed d)

-- and nothing is left once these were taken
pub drained : (max : ℕ) (old mid new : SplitterState) → AreLeft max old mid → new ≡ after_units_left max mid → IsDrained max new
drained max old mid new left is = record {
  going = ap (λ (s : SplitterState). s.failed) is ∙ left.going;
  taken =
      ap (λ (s : SplitterState). s.taken) is ∙ ap (λ n. n + length (units_left max mid)) left.taken
      ∙ sym (length-append (units max old.bytes old.ended) (units_left max mid)) ∙ ap length (sym left.all)
      ∙ ap (λ (s : SplitterState). length (units max s.bytes s.ended)) (sym is);
}

-- The lines of units that come to others come behind theirs.
lines_behind : (form : UnitFacts → List ℕ) (bytes front : List ℕ) (ended front_ended : Bool) (others : List Unit) → units 1 bytes ended ≡ units 1 front front_ended ++ others
    → unit_lines_so_far form bytes ended ≡ unit_lines_so_far form front front_ended ++ flat_map (line_of_unit form) others
lines_behind form bytes front ended front_ended others is =
    let line = line_of_unit form in
    sym (unit_lines_are form 1 bytes ended) ∙ ap (flat_map line) is ∙ flat_map-append line (units 1 front front_ended) others
    ∙ ap (λ l. l ++ flat_map line others) (unit_lines_are form 1 front front_ended)

pub unit_lines_added : (form : UnitFacts → List ℕ) (old mid new : SplitterState) (added : List ℕ) → AreLeft 1 old mid → new ≡ after_units_left 1 mid
    → added ≡ flat_map (line_of_unit form) (units_left 1 mid) → unit_lines_so_far form new.bytes new.ended ≡ unit_lines_so_far form old.bytes old.ended ++ added
unit_lines_added form old mid new added left is lines = rw (is, lines) (lines_behind form mid.bytes old.bytes mid.ended old.ended (units_left 1 mid) left.all)

pub unit_lines_grow : (form : UnitFacts → List ℕ) → UnitsStay → OnlyGrows (unit_lines_so_far form)
unit_lines_grow form stay bytes more ended short =
    let later = stay 1 bytes more ended in (_, lines_behind form (bytes ++ more) bytes ended false later.0 later.1)

-- ---- the units whose parameter sets are in force, after one unit more; and pieces, one after the other: ids

first_by : {A B : Type 0} (first : Read A) (rest : A → Read B) (id : Option ℕ) (b : Bits) (set : B) (r : Result (A × Bits) Fault) → first b ≡ r → whole (first >>= rest) id b ≡ Ok set
    → (head : A) × (read_value first b ≡ Some head)
first_by first rest id b set (Ok r) e f = (r.0, rw (read_value, e) refl)
first_by first rest id b set (Err fault) e f = let wrong = rw (whole, ◌>>=◌, e) at f in cc

-- The id of an accepted set was read, and is in the record.
is_id-self : (id : ℕ) → is_id id (Some id) ≡ true
is_id-self id = eq-eqb id id refl

alone : (test : SetUnit → Bool) (s : SetUnit) → test s ≡ true → last (filter test (s ∷ [])) ≡ Some s
alone test s e = rw (filter, e) refl

sps_alone : (rbsp : List ℕ) (id : ℕ) → sps_id rbsp ≡ Some id → sps_in_force (OfSps rbsp ∷ []) id ≡ accepted (sps_of rbsp)
sps_alone rbsp id e = ap sps_record (alone (is_sps id) (OfSps rbsp) (ap (is_id id) e ∙ is_id-self id))

pps_alone : (rbsp : List ℕ) (id : ℕ) → pps_id rbsp ≡ Some id → pps_in_force (OfPps rbsp ∷ []) id ≡ accepted (pps_of rbsp)
pps_alone rbsp id e = ap pps_record (alone (is_pps id) (OfPps rbsp) (ap (is_id id) e ∙ is_id-self id))

sps_id_is : SpsInForceKeepsLimits → (rbsp : List ℕ) (set : Sps) → sps_of rbsp ≡ Ok set → sps_id rbsp ≡ Some set.seq_parameter_set_id
sps_id_is law rbsp set is =
    let head = first_by identity sps_after (sps_id rbsp) (start rbsp) set _ refl is in
    let id : sps_id rbsp ≡ Some head.0.seq_parameter_set_id = ap (option_map (λ h. h.seq_parameter_set_id)) head.1 in
    let kept = law (OfSps rbsp ∷ []) head.0.seq_parameter_set_id set (sps_alone rbsp head.0.seq_parameter_set_id id ∙ ap accepted is) in
    id ∙ ap Some (sym kept.id_is)

pps_id_is : PpsInForceKeepsLimits → (rbsp : List ℕ) (set : Pps) → pps_of rbsp ≡ Ok set → pps_id rbsp ≡ Some set.pic_parameter_set_id
pps_id_is law rbsp set is =
    let id = first_by (ue_to 255) pps_after (pps_id rbsp) (start rbsp) set _ refl is in
    let kept = law (OfPps rbsp ∷ []) id.0 set (pps_alone rbsp id.0 id.1 ∙ ap accepted is) in
    id.1 ∙ ap Some (sym kept.id_is)

abbrev id_in : {A : Type 0} → SetFault → Result A SetFault → Option ℕ
id_in why (Ok x) = why.id
id_in why (Err f) = f.id

refused_by : {A : Type 0} (part : Read A) (id : Option ℕ) (b : Bits) (why : SetFault) (r : Result (A × Bits) Fault) → part b ≡ r → whole part id b ≡ Err why → id ≡ why.id
refused_by part id b why (Ok r) e f = let wrong = rw (whole, e) at f in cc
refused_by part id b why (Err fault) e f = let g = rw (whole, e) at f in ap (id_in why) g

refused_id : {A : Type 0} (part : Read A) (id : Option ℕ) (b : Bits) (why : SetFault) → whole part id b ≡ Err why → id ≡ why.id
refused_id part id b why f = refused_by part id b why (part b) refl f

-- ---- one set is put

one_put : (hit accepted : Bool) (unit : List ℕ) (old : Option (List ℕ)) → (if hit then (if accepted then Some unit else None) else old) ≡ replaced hit accepted unit old
one_put true true unit old = refl
one_put true false unit old = refl
one_put false accepted unit old = refl

-- a set of the other kind replaces nothing
pub no_pps : (o : Option SetUnit) (read : Result Sps SetFault) (unit : List ℕ) (kept : List (Option (List ℕ))) → option_map parameter_set o ≡ Some (OfSequence read)
    → AreReplaced is_pps pps_record o unit kept kept
no_pps (Some (OfSps rbsp)) read unit kept e = record { long = refl; each = λ id lt. refl }
no_pps (Some (OfPps rbsp)) read unit kept e = cc
no_pps None read unit kept e = cc

pub no_sps : (o : Option SetUnit) (read : Result Pps SetFault) (unit : List ℕ) (kept : List (Option (List ℕ))) → option_map parameter_set o ≡ Some (OfPicture read)
    → AreReplaced is_sps sps_record o unit kept kept
no_sps (Some (OfPps rbsp)) read unit kept e = record { long = refl; each = λ id lt. refl }
no_sps (Some (OfSps rbsp)) read unit kept e = cc
no_sps None read unit kept e = cc

-- by one of either kind, which has this id and was accepted or not
pub put_by : {A : Type 0} (has_id : ℕ → SetUnit → Bool) (record_of : Option SetUnit → Option A) (o : Option SetUnit) (id : Option ℕ) (accepted_so : Bool) (unit : List ℕ) (old new : List (Option (List ℕ)))
    → ((k : ℕ) → satisfies (has_id k) o ≡ is_id k id) → is_some (record_of o) ≡ accepted_so → length new ≡ length old
    → ((k : ℕ) → k < length old → stored new k ≡ (if is_id k id then (if accepted_so then Some unit else None) else stored old k))
    → AreReplaced has_id record_of o unit old new
put_by has_id record_of o id accepted_so unit old new same is long put = record {
  long = long;
  each = λ k low.
      put k low ∙ one_put (is_id k id) accepted_so unit (stored old k) ∙ ap (λ b. replaced b accepted_so unit (stored old k)) (sym (same k))
      ∙ ap (λ b. replaced (satisfies (has_id k) o) b unit (stored old k)) (sym is);
}

-- the id that a set was read with
abbrev pub read_id : {A : Type 0} → (A → ℕ) → Result A SetFault → Option ℕ
read_id id (Ok set) = Some (id set)
read_id id (Err why) = why.id

-- A set that was read so has this id, and is accepted or not.
abbrev pub IsReadSo : {A : Type 0} → (ℕ → SetUnit → Bool) → (Option SetUnit → Option A) → Option SetUnit → (id : Option ℕ) → Result A SetFault → Type 0
IsReadSo has_id record_of o id read = ((k : ℕ) → satisfies (has_id k) o ≡ is_id k id) × (record_of o ≡ accepted read)

pub sps_read : SpsInForceKeepsLimits → (o : Option SetUnit) (read : Result Sps SetFault) → option_map parameter_set o ≡ Some (OfSequence read)
    → IsReadSo is_sps sps_record o (read_id (λ set. set.seq_parameter_set_id) read) read
sps_read law (Some (OfSps rbsp)) (Ok set) e =
    let is : sps_of rbsp ≡ Ok set = cc in (λ k. ap (is_id k) (sps_id_is law rbsp set is), ap accepted is)
sps_read law (Some (OfSps rbsp)) (Err why) e =
    let is : sps_of rbsp ≡ Err why = cc in (λ k. ap (is_id k) (refused_id sps_part (sps_id rbsp) (start rbsp) why is), ap accepted is)
sps_read law _ read e = cc

pub pps_read : PpsInForceKeepsLimits → (o : Option SetUnit) (read : Result Pps SetFault) → option_map parameter_set o ≡ Some (OfPicture read)
    → IsReadSo is_pps pps_record o (read_id (λ set. set.pic_parameter_set_id) read) read
pps_read law (Some (OfPps rbsp)) (Ok set) e =
    let is : pps_of rbsp ≡ Ok set = cc in (λ k. ap (is_id k) (pps_id_is law rbsp set is), ap accepted is)
pps_read law (Some (OfPps rbsp)) (Err why) e =
    let is : pps_of rbsp ≡ Err why = cc in (λ k. ap (is_id k) (refused_id pps_part (pps_id rbsp) (start rbsp) why is), ap accepted is)
pps_read law _ read e = cc

-- ---- one unit more

last_more : {A : Type 0} (xs : List A) (x : A) → last (xs ++ x ∷ []) ≡ Some x
last_more [] x = refl
last_more (y ∷ []) x = refl
last_more (y ∷ z ∷ xs) x = last_more (z ∷ xs) x

last_kept : {A : Type 0} (p : A → Bool) (xs : List A) (x : A) (b : Bool) → p x ≡ b → last (filter p (xs ++ x ∷ [])) ≡ cond b (Some x) (last (filter p xs))
last_kept p xs x b e = rw (filter-append p xs (x ∷ [])) (grind (arith, last_more, append-nil, e))

last_set : (test : SetUnit → Bool) (sets : List SetUnit) (set : Option SetUnit) (hit : Bool) → satisfies test set ≡ hit
    → last (filter test (sets ++ (list_of set ++ []))) ≡ cond hit set (last (filter test sets))
last_set test sets None true e = cc
last_set test sets None false e = ap (λ l. last (filter test l)) (append-nil sets)
last_set test sets (Some s) hit e = last_kept test sets s hit e

-- the unit whose set is in force, by the record of the last set that passes
abbrev decided : {A : Type 0} → (Option SetUnit → Option A) → (SetUnit → Bool) → List Unit → List Unit
decided record_of test before = deciding_unit (is_some (record_of (last (filter test (set_units before))))) test before

abbrev brings : (SetUnit → Bool) → Unit → Bool
brings test u = satisfies test (set_unit u)

by_last : (in_force : Bool) (test : SetUnit → Bool) (us : List Unit) (found : Option Unit) → last (filter (brings test) us) ≡ found
    → deciding_unit in_force test us ≡ cond in_force (unit_list found) []
by_last true test us found e = ap unit_list e
by_last false test us found e = refl

decided_more : {A : Type 0} (record_of : Option SetUnit → Option A) (test : SetUnit → Bool) (before : List Unit) (u : Unit) (hit : Bool) → brings test u ≡ hit
    → decided record_of test (before ++ u ∷ []) ≡ cond hit (cond (is_some (record_of (set_unit u))) (u ∷ []) []) (decided record_of test before)
decided_more record_of test before u true e =
    by_last _ test (before ++ u ∷ []) (Some u) (last_kept (brings test) before u true e)
    ∙ ap (λ o. cond (is_some (record_of o)) (u ∷ []) []) (ap (λ l. last (filter test l)) (set_units-append before (u ∷ [])) ∙ last_set test (set_units before) (set_unit u) true e)
decided_more record_of test before u false e =
    by_last _ test (before ++ u ∷ []) _ (last_kept (brings test) before u false e)
    ∙ ap (λ o. cond (is_some (record_of o)) (unit_list (last (filter (brings test) before))) []) (ap (λ l. last (filter test l)) (set_units-append before (u ∷ [])) ∙ last_set test (set_units before) (set_unit u) false e)
    ∙ sym (by_last (is_some (record_of (last (filter test (set_units before))))) test before _ refl)

kept_replaced : (u : Unit) (hit in_force : Bool) (old : Option (List ℕ)) (by_id : List Unit) → kept_bytes old ≡ flat_map written by_id
    → kept_bytes (replaced hit in_force (written u) old) ≡ flat_map written (cond hit (cond in_force (u ∷ []) []) by_id)
kept_replaced u hit in_force old by_id e = grind (arith, append-nil)

kept_more : {A : Type 0} (record_of : Option SetUnit → Option A) (has_id : ℕ → SetUnit → Bool) (count : ℕ) (before : List Unit) (u : Unit) (old new : List (Option (List ℕ)))
    → AreKept count (λ id. decided record_of (has_id id) before) old → AreReplaced has_id record_of (set_unit u) (written u) old new → AreKept count (λ id. decided record_of (has_id id) (before ++ u ∷ [])) new
kept_more record_of has_id count before u old new h put = record {
  long = put.long ∙ h.long;
  each = λ id low.
      ap kept_bytes (put.each id (omega (arith, low, h.long)))
      ∙ kept_replaced u (brings (has_id id) u) (is_some (record_of (set_unit u))) (stored old id) (decided record_of (has_id id) before) (h.each id low)
      ∙ ap (flat_map written) (sym (decided_more record_of (has_id id) before u (brings (has_id id) u) refl));
}

pub sets_more : (before : List Unit) (u : Unit) (old new : SetsInForce) → HasSets before old
    → AreReplaced is_sps sps_record (set_unit u) (written u) old.sps.items new.sps.items → AreReplaced is_pps pps_record (set_unit u) (written u) old.pps.items new.pps.items
    → HasSets (before ++ u ∷ []) new
sets_more before u old new h sps_put pps_put = record {
  sps = kept_more sps_record is_sps 32 before u old.sps.items new.sps.items h.sps sps_put;
  pps = kept_more pps_record is_pps 256 before u old.pps.items new.pps.items h.pps pps_put;
}

-- one place more in a list
pub sets_next : (us : List Unit) (i : ℕ) (u : Unit) (old new : SetsInForce) → i < length us → u ≡ get_or us i u → HasSets (take i us) old
    → AreReplaced is_sps sps_record (set_unit u) (written u) old.sps.items new.sps.items → AreReplaced is_pps pps_record (set_unit u) (written u) old.pps.items new.pps.items
    → HasSets (take (i + 1) us) new
sets_next us i u old new low at h sps_put pps_put =
    let front : take i us ++ u ∷ [] ≡ take (i + 1) us = sym (take_more us i u low ∙ ap (λ y. take i us ++ y ∷ []) (sym at)) in
    subst (λ before. HasSets before new) front (sets_more (take i us) u old new h sps_put pps_put)

kept_none : (count : ℕ) (kept : List (Option (List ℕ))) → kept ≡ replicate count None → AreKept count (λ id. []) kept
kept_none count kept is = record {
  long = ap length is ∙ length-replicate count None;
  each = λ id low. ap (λ l. kept_bytes (stored l id)) is ∙ ap kept_bytes (get_or-replicate count id None None low);
}

pub sets_none : (sets : SetsInForce) → sets.sps.items ≡ replicate 32 None → sets.pps.items ≡ replicate 256 None → HasSets [] sets
sets_none sets sps_are pps_are = record { sps = kept_none 32 _ sps_are; pps = kept_none 256 _ pps_are }

-- ---- what is kept is written

kept_written : (by_id : ℕ → List Unit) (start : ℕ) (kept : List (Option (List ℕ))) → ((k : ℕ) → k < length kept → kept_bytes (stored kept k) ≡ flat_map written (by_id (start + k)))
    → flat_map kept_bytes kept ≡ flat_map written (flat_map by_id (range_with_len start (length kept)))
kept_written by_id start [] each = refl
kept_written by_id start (p ∷ kept) each =
    let here : kept_bytes p ≡ flat_map written (by_id start) = each 0 (omega arith) ∙ ap (λ k. flat_map written (by_id k)) (omega arith) in
    let others = kept_written by_id (start + 1) kept (λ k low. each (suc k) (omega (arith, low)) ∙ ap (λ k. flat_map written (by_id k)) (omega arith)) in
    ap (λ w. w ++ flat_map kept_bytes kept) here
    ∙ ap (λ w. flat_map written (by_id start) ++ w) others
    ∙ sym (flat_map-append written (by_id start) (flat_map by_id (range_with_len (start + 1) (length kept))))

all_written : (by_id : ℕ → List Unit) (count : ℕ) (kept : List (Option (List ℕ))) → AreKept count by_id kept
    → flat_map kept_bytes kept ≡ flat_map written (flat_map by_id (range_with_len 0 count))
all_written by_id count kept h =
    kept_written by_id 0 kept (λ k low. h.each k (omega (arith, low, h.long)) ∙ ap (λ k. flat_map written (by_id k)) (omega arith))
    ∙ ap (λ n. flat_map written (flat_map by_id (range_with_len 0 n))) h.long

pub sets_written : (before : List Unit) (sets : SetsInForce) → HasSets before sets
    → flat_map kept_bytes sets.sps.items ++ flat_map kept_bytes sets.pps.items ≡ flat_map written (sets_in_force before)
sets_written before sets h =
    rw (flat_map-append written (flat_map (sps_unit before) (range_with_len 0 32)), all_written (sps_unit before) 32 _ h.sps, all_written (pps_unit before) 256 _ h.pps) refl

-- ---- pieces, one after the other

-- the five parts
joined : (sets leading : List Unit) (u : Unit) (rest : List Unit)
    → ((flat_map written sets ++ flat_map written leading) ++ written u) ++ flat_map written rest ≡ flat_map written (sets ++ leading ++ u ∷ rest)
joined sets leading u rest = rw (flat_map-append written (sets ++ leading), flat_map-append written sets) (append_assoc _ (written u) (flat_map written rest))

pub piece_written : (us : List Unit) (place k : ℕ) (u : Unit) (sets : SetsInForce) (s0 s1 s2 s3 s4 s5 : List ℕ) → place < length us → u ≡ get_or us place u → HasSets (take place us) sets
    → k ≡ length (through_slices (take place us)) → s0 ≡ []
    → s1 ≡ s0 ++ flat_map kept_bytes sets.sps.items → s2 ≡ s1 ++ flat_map kept_bytes sets.pps.items
    → s3 ≡ s2 ++ flat_map written (filter leads (take (length (take place us) - k) (drop k (take place us)))) → s4 ≡ s3 ++ written u
    → s5 ≡ s4 ++ flat_map written (rest_of_piece (take (length us - (place + 1)) (drop (place + 1) us)))
    → s5 ≡ piece_at us place
piece_written us place k u sets s0 s1 s2 s3 s4 s5 low at h is_k e0 e1 e2 e3 e4 e5 =
    let before = take place us in
    let after = drop (place + 1) us in
    rw (
      e5,
      e4,
      e3,
      e2,
      e1,
      e0,
      is_k,
      part_from (length (through_slices before)) before,
      ← after_is_rest before,
      sets_written before sets h,
      part_from (place + 1) us,
    ) (joined (sets_in_force before) (filter leads (after_slices before)) u (rest_of_piece after)
    ∙ ap (piece_in before) (sym (drop_more us place u low ∙ ap (λ v. v ∷ after) (sym at))))

-- ---- one place more

by_start : {X : Type 0} (starts : Bool) (x : X) (others : List X) → elim starts [ true ↦ x ∷ others | false ↦ others ] ≡ elim starts [ true ↦ x ∷ [] | false ↦ [] ] ++ others
by_start true x others = refl
by_start false x others = refl

pieces_first : (before : List Unit) (u : Unit) (after : List Unit) → pieces_from before (u ∷ after) ≡ pieces_in before (u ∷ after) ++ pieces_from (before ++ u ∷ []) after
pieces_first before u after = by_start (is_start u) (flat_map written (piece before u after)) (pieces_from (before ++ u ∷ []) after)

pub pieces_more : (us : List Unit) (i : ℕ) (u : Unit) (all more : List (List ℕ)) → i < length us → u ≡ get_or us i u → all ++ pieces_from (take i us) (drop i us) ≡ pieces_from [] us
    → more ≡ all ++ pieces_at us i → more ++ pieces_from (take (i + 1) us) (drop (i + 1) us) ≡ pieces_from [] us
pieces_more us i u all more low at sum is =
    let before = take i us in
    let after = drop (i + 1) us in
    let here : drop i us ≡ u ∷ after = drop_more us i u low ∙ ap (λ v. v ∷ after) (sym at) in
    let front : take (i + 1) us ≡ before ++ u ∷ [] = take_more us i u low ∙ ap (λ v. before ++ v ∷ []) (sym at) in
    let split : pieces_from before (drop i us) ≡ pieces_at us i ++ pieces_from (take (i + 1) us) after =
    ap (pieces_from before) here ∙ pieces_first before u after ∙ ap (λ here. pieces_in before here ++ pieces_from (before ++ u ∷ []) after) (sym here)
    ∙ ap (λ front. pieces_at us i ++ pieces_from front after) (sym front) in
    ap (λ l. l ++ pieces_from (take (i + 1) us) after) is ∙ append_assoc all (pieces_at us i) (pieces_from (take (i + 1) us) after) ∙ ap (λ l. all ++ l) (sym split) ∙ sum

one_piece : (before here : List Unit) (starts : List Bool) (b : Bool) → b ∷ starts ≡ map is_start here → pieces_in before here ≡ elim b [ true ↦ piece_in before here ∷ [] | false ↦ [] ]
one_piece before [] starts b e = cc
one_piece before (u ∷ after) starts b e =
    let same : b ≡ is_start u = cc in
    ap (λ s. elim s [ true ↦ flat_map written (piece before u after) ∷ [] | false ↦ [] ]) (sym same)

pub piece_if : (us : List Unit) (place : ℕ) (starts : List Bool) (b : Bool) → place < length us → b ≡ get_or starts place false → starts ≡ map is_start us
    → pieces_at us place ≡ elim b [ true ↦ piece_at us place ∷ [] | false ↦ [] ]
piece_if us place starts b low at is =
    let long : place < length starts = omega (arith, low, ap length is ∙ length-map us is_start) in
    one_piece (take place us) (drop place us) (drop (place + 1) starts) b
    (ap (λ v. v ∷ drop (place + 1) starts) at ∙ sym (drop_more starts place false long) ∙ ap (drop place) is ∙ drop-map is_start place us)
