-- The reference frames: what an operation and the sliding window leave of them.
pub mod Common
unfoldable pub use Common.*

-- ---- what a change of frames makes of the reference frames among them: rising entries

stand_rest : (e : ℕ) (es : List ℕ) (f : MarkedFrame) (fs : List MarkedFrame) → StandAt (e ∷ es) (f ∷ fs) → StandAt es fs
stand_rest e es f fs s = record { each = omega (arith, s.each); rising = rising_rest e es s.rising }

-- ---- one more frame at the end

pub references-append : (es : List ℕ) (fs : List MarkedFrame) (e : ℕ) (f : MarkedFrame) → length es ≡ length fs →
    references_at (es ++ e ∷ []) (fs ++ f ∷ []) ≡ references_at es fs ++ references_at (e ∷ []) (f ∷ [])
references-append [] [] e f same = refl
references-append [] (g ∷ fs) e f same = absurd (omega (arith, same))
references-append (d ∷ es) [] e f same = absurd (omega (arith, same))
references-append (d ∷ es) (g ∷ fs) e f same = grind (arith, (references-append es fs e f (omega (arith, same))))

pub ruleset references_added = (references-append)

-- ---- frames become unused

pub references-unmarked_if : (q : Reference → Bool) (free : (e : ℕ) (f : MarkedFrame) → q (reference_of e f) ≡ q (reference_of 0 f))
    (es : List ℕ) (fs gs : List MarkedFrame) → length es ≡ length fs → length gs ≡ length fs →
    ((k : ℕ) → k < length fs → slice_index_or gs k no_frame ≡ unmarked_if q (slice_index_or fs k no_frame)) →
    references_at es gs ≡ filter (λ r. not (q r)) (references_at es fs)
references-unmarked_if q free [] fs gs same same' each = refl
references-unmarked_if q free (e ∷ es) [] gs same same' each = absurd (omega (arith, same))
references-unmarked_if q free (e ∷ es) (f ∷ fs) [] same same' each = absurd (omega (arith, same'))
references-unmarked_if q free (e ∷ es) (f ∷ fs) (g ∷ gs) same same' each =
    let here = each 0 (omega arith) in
    let more = references-unmarked_if q free es fs gs (omega (arith, same)) (omega (arith, same')) (λ k h. each (suc k) (omega arith)) in
    grind (arith, here, free e f, more)

-- none is an earlier entry
others-kept : (x : ℕ) (es : List ℕ) (fs : List MarkedFrame) → ((k : ℕ) → k < length es → x < slice_index es k) →
    filter (λ s. not (s.decoding_index == x)) (references_at es fs) ≡ references_at es fs
others-kept x [] fs above = refl
others-kept x (e ∷ es) [] above = refl
others-kept x (e ∷ es) (f ∷ fs) above = grind (arith, nat_tests, above 0 (omega arith), others-kept x es fs (λ k h. above (suc k) (omega arith)))

pub references_forgotten : (es : List ℕ) (fs : List MarkedFrame) (p : ℕ) → StandAt es fs → p < length fs →
    references_at es (slice_set fs p (unmarked (slice_index_or fs p no_frame))) ≡ without_frame (reference_at es fs p) (references_at es fs)
references_forgotten [] fs p stand within = absurd (omega (arith, stand.each))
references_forgotten (e ∷ es) [] p stand within = absurd (omega (arith, within))
references_forgotten (e ∷ es) (f ∷ fs) zero stand within = grind (arith, nat_tests, others-kept e es fs (λ k h. below_rest e es k stand.rising h))
references_forgotten (e ∷ es) (f ∷ fs) (suc p) stand within =
    let below : e < slice_index es p = below_rest e es p stand.rising (omega (arith, stand.each, within)) in
    grind (arith, nat_tests, references_forgotten es fs p (stand_rest e es f fs stand) (omega arith))

-- ---- one frame is changed

others-left : (x : ℕ) (change : Reference → Reference) (es : List ℕ) (fs : List MarkedFrame) → ((k : ℕ) → k < length es → x < slice_index es k) →
    map (λ s. if s.decoding_index == x then change s else s) (references_at es fs) ≡ references_at es fs
others-left x change [] fs above = refl
others-left x change (e ∷ es) [] above = refl
others-left x change (e ∷ es) (f ∷ fs) above = grind (arith, nat_tests, above 0 (omega arith), others-left x change es fs (λ k h. above (suc k) (omega arith)))

pub references-changed : (change : Reference → Reference) (es : List ℕ) (fs : List MarkedFrame) (p : ℕ) (g : MarkedFrame) → StandAt es fs → p < length fs →
    is_some g.mark ≡ is_some (slice_index_or fs p no_frame).mark → reference_of (slice_index es p) g ≡ change (reference_at es fs p) →
    references_at es (slice_set fs p g) ≡ map (λ s. if s.decoding_index == slice_index es p then change s else s) (references_at es fs)
references-changed change [] fs p g stand within marked same = absurd (omega (arith, stand.each))
references-changed change (e ∷ es) [] p g stand within marked same = absurd (omega (arith, within))
references-changed change (e ∷ es) (f ∷ fs) zero g stand within marked same =
    grind (arith, nat_tests, others-left e change es fs (λ k h. below_rest e es k stand.rising h))
references-changed change (e ∷ es) (f ∷ fs) (suc p) g stand within marked same =
    let below : e < slice_index es p = below_rest e es p stand.rising (omega (arith, stand.each, within)) in
    grind (arith, nat_tests, references-changed change es fs p g (stand_rest e es f fs stand) (omega arith) marked same)

-- ---- frames that are changed through a slice of them: `zs` is the slice as it was, `ws` as it was left

pub refilled : {A : Type 0} (xs ws : List A) → length ws ≡ length xs → refill (length xs) xs ws ≡ ws
refilled xs ws same = grind (arith, drop_all, append-nil, take_all)

pub stand_as : (es : List ℕ) (xs zs : List MarkedFrame) → zs ≡ xs → StandAt es xs → StandAt es zs
stand_as es xs zs same stand = record { each = omega (arith, stand.each, ap length same); rising = stand.rising }

-- ---- one operation on the frames, and what it makes of the marks

rising_front : (indices : List ℕ) (own : ℕ) → IsStrictlyIncreasing (indices ++ own ∷ []) → IsStrictlyIncreasing indices
rising_front indices own rising = grind (arith, length-append, get_or_append_left)

pub stand_with : (assigned : Bool) (indices : List ℕ) (own : ℕ) (fs : List MarkedFrame) → StandWith assigned indices own fs → StandAt (indices_with assigned indices own) fs
stand_with true indices own fs s = record { each = s.each; rising = s.rising }
stand_with false indices own fs s = record { each = s.each; rising = rising_front indices own s.rising }

pub stand_before : (indices : List ℕ) (own : ℕ) (fs : List MarkedFrame) → StandBefore indices own fs → StandAt indices fs
stand_before indices own fs s = record { each = s.each; rising = rising_front indices own s.rising }

-- ---- operations 4, 5 and 6

pub not-not : (b : Bool) → not (not b) ≡ b
not-not true = refl
not-not false = refl

pub filter-nothing : {A : Type 0} (xs : List A) → filter (λ x. false) xs ≡ []
filter-nothing [] = refl
filter-nothing (x ∷ xs) = filter-nothing xs

-- ---- operation 3

short-stays : (index n : ℕ) (x : Bool) (m : Option Mark) → m ≡ Some Short →
    ◌≡◌ {A = MarkedFrame} (unmarked_if (is_to_unmark (Index index)) (record { frame_num = n; existing = x; mark = m })) (record { frame_num = n; existing = x; mark = m })
short-stays index n x m h = grind arith

pub long-ok : (s : MarkingEntry) (d index : ℕ) (max_long_term_frame_idx : Option ℕ) (es : List ℕ) (xs ws : List MarkedFrame) (place : ℕ) → StandAt es xs → place < length xs → length ws ≡ length xs →
    (slice_index_or xs place no_frame).mark ≡ Some Short → frame_with_pic_num_x s d (references_at es xs) ≡ Ok (reference_at es xs place) →
    ((slice_index_or xs place no_frame).existing && is_index_allowed index max_long_term_frame_idx) ≡ true →
    slice_index_or ws place no_frame ≡ unmarked_if (is_to_unmark (Index index)) (slice_index_or xs place no_frame) →
    references_at es ws ≡ without_long_term_frame_idx index (references_at es xs) →
    with_long_term s d index max_long_term_frame_idx (references_at es xs) ≡ Ok (references_at es (slice_set ws place (record (slice_index_or ws place no_frame) { mark = Some (Long index) })))
long-ok s d index max_long_term_frame_idx es xs ws place stand within kept short named fits each left =
    let stand' : StandAt es ws = record { each = omega (arith, stand.each); rising = stand.rising } in
    let same : slice_index_or ws place no_frame ≡ slice_index_or xs place no_frame = grind (arith, short-stays) in
    let f : MarkedFrame = record (slice_index_or ws place no_frame) { mark = Some (Long index) } in
    grind (arith, references-changed (λ t. with_other_mark t (Long index)) es ws place f stand' (omega arith) (grind arith) refl)

-- what an operation needs
pub ruleset operating = (nat_tests, stand_as, stand_with, refilled, err_from_is_err_and, filter_agree, not-not)

-- ---- all operations

pub stand_turned : (assigned : Bool) (indices : List ℕ) (own : ℕ) (xs ys : List MarkedFrame) → StandBefore indices own xs → length ys ≡ length xs + (if assigned then 1 else 0) → StandWith assigned indices own ys
stand_turned true indices own xs ys stand h = record { each = omega (arith, stand.each, h, length-append indices (own ∷ [])); rising = stand.rising }
stand_turned false indices own xs ys stand h = record { each = omega (arith, stand.each, h); rising = stand.rising }

-- an operation does not read the marking
operation-any : (new : NewFrame) (m n : Option Marking) (own : ℕ) (t : OperationState) (o : Operation) → after_operation (marking_entry new m) own t o ≡ after_operation (marking_entry new n) own t o
operation-any new m n own t o = grind arith

pub operations-any : (new : NewFrame) (m n : Option Marking) (own : ℕ) (t : OperationState) (os : List Operation) → after_operations (marking_entry new m) own t os ≡ after_operations (marking_entry new n) own t os
operations-any new m n own t [] = refl
operations-any new m n own t (o ∷ os) = grind (arith, operation-any, (λ (u : OperationState). operations-any new m n own u os))

pub stand_settled : (assigned : Bool) (indices : List ℕ) (own : ℕ) (xs ys zs : List MarkedFrame) → StandBefore indices own xs → length ys ≡ length xs + (if assigned then 1 else 0) →
    length zs + (if assigned then 1 else 0) ≡ length ys + 1 → StandAt (indices ++ own ∷ []) zs
stand_settled assigned indices own xs ys zs stand h k = record { each = grind (arith, length-append); rising = stand.rising }

-- ---- the picture's own frame among the others, and the limit: after the operations

pub settled-assigned : (s : MarkingEntry) (indices : List ℕ) (decoding_index : ℕ) (max_long_term_frame_idx : Option ℕ) (xs zs ys : List MarkedFrame) (last kept : ℕ) → zs ≡ xs → ys ≡ xs →
    StandWith true indices decoding_index xs → last + 1 ≡ length xs → kept ≡ frame_num_after_marking s →
    with_current_frame s decoding_index (operation_state indices decoding_index xs max_long_term_frame_idx true)
    ≡ marks_at (indices ++ decoding_index ∷ []) (refill (length xs) xs (slice_set zs last (record { frame_num = kept; existing = s.existing; mark = (slice_index_or ys last no_frame).mark }))) max_long_term_frame_idx
settled-assigned s indices decoding_index max_long_term_frame_idx xs zs ys last kept same same' stand place number =
    let es = indices ++ decoding_index ∷ [] in
    let g : MarkedFrame = record { frame_num = kept; existing = s.existing; mark = (slice_index_or ys last no_frame).mark } in
    let here : slice_index (indices ++ decoding_index ∷ []) last ≡ decoding_index = get_or_at indices decoding_index [] 0 last (omega (arith, stand.each, place, length-append indices (decoding_index ∷ []))) in
    let changed =
    references-changed (λ r. current_frame s decoding_index r.mark) es xs last g (stand_with true indices decoding_index xs stand) (omega (arith, place)) (cc) (cc) in
    grind (arith, changed, refilled, length-set)

-- ---- the sliding window: no reference picture

pub unmarked_added : (new : NewFrame) (marking : Option Marking) (indices : List ℕ) (decoding_index : ℕ) (max_long_term_frame_idx : Option ℕ) (xs ys : List MarkedFrame) → marking ≡ None → length indices ≡ length xs →
    ys ≡ xs ++ record { frame_num = new.current.frame_num; existing = new.existing; mark = None } ∷ [] →
    marks_after (marking_entry new marking) decoding_index marking (marks_at indices xs max_long_term_frame_idx) ≡ Ok (marks_at (indices ++ decoding_index ∷ []) ys max_long_term_frame_idx)
unmarked_added new marking indices decoding_index max_long_term_frame_idx xs ys is each added = grind (arith, references-append, append-nil)

-- ---- frame numbers modulo MaxFrameNum

-- they depend on the first one modulo MaxFrameNum alone
pub numbers-mod : (max a n : ℕ) → frame_nums_from max (a % max) n ≡ frame_nums_from max a n
numbers-mod max a zero = refl
numbers-mod max a (suc n) = cc (mod-mod a max, mod-add-mod a max 1, numbers-mod max (a % max + 1) n, numbers-mod max (a + 1) n)

pub length_numbers : (max n a : ℕ) → length (frame_nums_from max a n) ≡ n
length_numbers max zero a = refl
length_numbers max (suc n) a = ap suc (length_numbers max n (a + 1))

-- all but the first k
pub numbers_skipped : (max k left a : ℕ) → k ≤ left → drop k (frame_nums_from max a left) ≡ frame_nums_from max (a + k) (left - k)
numbers_skipped max zero left a h = grind arith
numbers_skipped max (suc k) zero a h = absurd (omega (arith, h))
numbers_skipped max (suc k) (suc left) a h = grind (arith, numbers_skipped max k left (a + 1) (omega (arith, h)))

pub numbers_next : (max next after left : ℕ) → next < max → 0 < left → after ≡ (next + 1) % max →
    frame_nums_from max next left ≡ next ∷ frame_nums_from max after (left - 1)
numbers_next max next after left below more moved = grind (arith, mod-eq_of_lt, numbers-mod)

-- ---- numbers that are the same modulo two

numbers_at : (m n a i : ℕ) → i < n → slice_index_or (frame_nums_from m a n) i 0 ≡ (a + i) % m
numbers_at m zero a i few = absurd (omega (arith, few))
numbers_at m (suc n) a zero few = ap (λ k. k % m) (omega arith)
numbers_at m (suc n) a (suc i) few = numbers_at m n (a + 1) i (omega (arith, few)) ∙ ap (λ k. k % m) (omega arith)

-- no number comes to either
pub numbers_low : (m n k a : ℕ) → a + k ≤ m → a + k ≤ n → frame_nums_from m a k ≡ frame_nums_from n a k
numbers_low m n zero a low low' = refl
numbers_low m n (suc k) a low low' =
    let first : a % m ≡ a % n = mod-eq_of_lt (omega (arith, low)) ∙ sym (mod-eq_of_lt (omega (arith, low'))) in
    rw (first, numbers_low m n k (a + 1) (omega (arith, low)) (omega (arith, low'))) refl

-- each stands modulo both at its place
same_at : (m n k a b i : ℕ) → frame_nums_from m a k ≡ frame_nums_from n b k → i < k → (a + i) % m ≡ (b + i) % n
same_at m n k a b i same few =
    sym (numbers_at m k a i few) ∙ ap (λ xs. slice_index_or xs i 0) same ∙ numbers_at n k b i few

-- they begin with the same one
pub numbers_begin : (m n k a b : ℕ) → a < m → b < n → 0 < k → frame_nums_from m a k ≡ frame_nums_from n b k → a ≡ b
numbers_begin m n k a b below below' some same =
    let low : a + 0 < m = omega (arith, below) in
    let low' : b + 0 < n = omega (arith, below') in
    let e : a + 0 ≡ b + 0 = sym (mod-eq_of_lt low) ∙ same_at m n k a b 0 same some ∙ mod-eq_of_lt low' in
    omega (arith, e)

-- where they come round modulo one, the other is the same
pub numbers_round : (m n k a : ℕ) → a < m → a < n → m < a + k → frame_nums_from m a k ≡ frame_nums_from n a k → m ≡ n
numbers_round m n k a below below' round same =
    let here : a + (m - a) ≡ m = omega (arith, below) in
    let before : a + (m - a - 1) ≡ m - 1 = omega (arith, below) in
    let once : m ≡ 1 * m + 0 = omega arith in
    let none : m % m ≡ 0 = ap (λ x. x % m) once ∙ mod-mul-add 1 m 0 (omega (arith, below)) in
    let zero_there : m % n ≡ 0 =
    sym (ap (λ x. x % n) here) ∙ sym (same_at m n k a a (m - a) same (omega (arith, below, round))) ∙ ap (λ x. x % m) here ∙ none in
    let last : (m - 1) % n ≡ m - 1 =
    sym (ap (λ x. x % n) before) ∙ sym (same_at m n k a a (m - a - 1) same (omega (arith, below, round))) ∙ ap (λ x. x % m) before
    ∙ mod-eq_of_lt (omega (arith, below)) in
    let low : (m - 1) % n < n = mod_below (m - 1) n (omega (arith, below')) in
    elim (cases_lt m n) [
      | inl less ↦ absurd (omega (arith, below, zero_there, mod-eq_of_lt less))
      | inr more ↦ omega (arith, low, last, more, below)
    ]

-- so they are counted modulo one and the same, or come to neither
pub alike : (m n k a b : ℕ) → a < m → b < n → 0 < k → frame_nums_from m a k ≡ frame_nums_from n b k → (m ≡ n) ⊎ ((a + k ≤ m) × (a + k ≤ n))
alike m n k a b below below' some same =
    let e = numbers_begin m n k a b below below' some same in
    let low : a < n = omega (arith, e, below') in
    let here : frame_nums_from m a k ≡ frame_nums_from n a k = same ∙ ap (λ x. frame_nums_from n x k) (sym e) in
    elim (cases_lt m (a + k)) [
      | inl round ↦ inl (numbers_round m n k a below low round here)
      | inr within ↦ elim (cases_lt n (a + k)) [
        | inl round ↦ inl (sym (numbers_round n m k a low below round (sym here)))
        | inr within' ↦ inr (within, within')
      ]
    ]

pub ruleset gap_numbers = (nat_tests, length_numbers, numbers-mod, numbers_skipped)

-- ---- how many reference frames there are, and which goes first from the sliding window

pub length_references : (es : List ℕ) (fs : List MarkedFrame) → length es ≡ length fs →
    length (references_at es fs) ≡ length (filter {X = MarkedFrame} (λ f. is_some f.mark) fs)
length_references [] [] same = refl
length_references [] (f ∷ fs) same = absurd (omega (arith, same))
length_references (e ∷ es) [] same = refl
length_references (e ∷ es) (f ∷ fs) same = grind (arith, (length_references es fs (omega (arith, same))))

pub ruleset counting = (take_all, length_references)

-- ---- among those from a place on

pub first-placed : (current : CurrentFrameNum) (r : Reference) (rs : List Reference) →
    slice_get (placed_by (precedes_in_window current) r rs) 0 ≡ first_in_window_of current r (slice_get rs 0)
first-placed current r [] = refl
first-placed current r (s ∷ rs) = grind (arith, placed_behind, placed_here)

pub first-with : (current : CurrentFrameNum) (es : List ℕ) (fs : List MarkedFrame) (p n : ℕ) → n ≡ suc p → length es ≡ length fs → p < length fs → is_marked is_short (slice_index_or fs p no_frame) ≡ true →
    first_in_window current (references_at (drop p es) (drop p fs)) ≡ first_in_window_of current (reference_at es fs p) (first_in_window current (references_at (drop n es) (drop n fs)))
first-with current es fs p n e same within h = grind (arith, and_parts, references_with, first-placed)

pub first-without_frame : (current : CurrentFrameNum) (es : List ℕ) (fs : List MarkedFrame) (p n : ℕ) → n ≡ suc p → length es ≡ length fs → p < length fs → is_marked is_short (slice_index_or fs p no_frame) ≡ false →
    first_in_window current (references_at (drop p es) (drop p fs)) ≡ first_in_window current (references_at (drop n es) (drop n fs))
first-without_frame current es fs p n e same within h = grind (arith, references_without, references_with)

pub index_above : (es : List ℕ) (fs : List MarkedFrame) (p q : ℕ) → StandAt es fs → p < q → q < length fs → slice_index es p < slice_index es q
index_above es fs p q stand h within = AllPairs-from_increasing es stand.rising p q 0 h (omega (arith, within, stand.each))

pub first-step : (current : CurrentFrameNum) (es : List ℕ) (fs : List MarkedFrame) (p n : ℕ) (first before : Option ℕ) → n ≡ suc p → StandAt es fs → p < length fs →
    (is_marked is_short (slice_index_or fs p no_frame) ≡ false → first ≡ before) →
    (is_marked is_short (slice_index_or fs p no_frame) ≡ true → (es' : List ℕ) → StandAt es' fs → option_map (reference_at es' fs) first ≡ first_in_window_of current (reference_at es' fs p) (option_map (reference_at es' fs) before)) →
    first_in_window current (references_at (drop n es) (drop n fs)) ≡ option_map (reference_at es fs) before →
    first_in_window current (references_at (drop p es) (drop p fs)) ≡ option_map (reference_at es fs) first
first-step current es fs p n first before e stand within long short so_far = by_test (is_marked is_short (slice_index_or fs p no_frame)) refl
  where
    by_test : (b : Bool) → is_marked is_short (slice_index_or fs p no_frame) ≡ b →
        first_in_window current (references_at (drop p es) (drop p fs)) ≡ option_map (reference_at es fs) first
    by_test true h =
        first-with current es fs p n e stand.each within h ∙ ap (first_in_window_of current (reference_at es fs p)) so_far ∙ sym (short h es stand)
    by_test false h =
        first-without_frame current es fs p n e stand.each within h ∙ so_far ∙ ap (option_map (reference_at es fs)) (sym (long h))

-- ---- the sliding window over short-term frames whose numbers rise: numbers that go on past MaxFrameNum

-- one that comes less than max later
ahead : (max v number : ℕ) → v ≤ number → number < v + max → (number % max ≡ v % max + (number - v)) ⊎ (number % max + max ≡ v % max + (number - v))
ahead max v number low high = by_test (nat_lt (v % max + (number - v)) max) refl
  where
    q : ℕ
    q = v / max

    parts : v ≡ q * max + v % max
    parts = omega (arith, div-add-mod v max)

    by_test : (b : Bool) → nat_lt (v % max + (number - v)) max ≡ b → (number % max ≡ v % max + (number - v)) ⊎ (number % max + max ≡ v % max + (number - v))
    by_test true e =
        let less : v % max + (number - v) < max = grind (arith, nat_tests, e) in
        let is : number ≡ q * max + (v % max + (number - v)) = omega (arith, parts) in
        inl (ap (λ n. n % max) is ∙ mod-mul-add q max (v % max + (number - v)) less)
    by_test false e =
        let k : ℕ = (v % max + (number - v)) - max in
        let k_is : k + max ≡ v % max + (number - v) = grind (arith, nat_tests, e) in
        let below : v % max < max = mod-lt v (omega (arith, low, high)) in
        let less : k < max = omega (arith, k_is, below, high) in
        let is : number ≡ (q * max + k) + max = omega (arith, parts, k_is) in
        inr (ap (λ n. n % max + max) is ∙ ap (λ n. n + max) (add-mod_right (q * max + k) max ∙ mod-mul-add q max k less) ∙ k_is)

-- FrameNumWrap of a number before the current one
seen : (max number v : ℕ) → v < number → number < v + max →
    (pic_num_of (record { frame_num = number % max; max_frame_num = max }) (v % max) +ℤ pos number) ≡ (pos v +ℤ pos (number % max))
seen max number v low high =
    let behind = ahead max v number (omega (arith, low)) high in
    grind (arith, ints, nat_tests)

-- ---- which goes first

-- none of them goes before the first
abbrev NoneBefore : CurrentFrameNum → Reference → List Reference → Type 0
NoneBefore current r [] = Unit {0}
NoneBefore current r (s ∷ rs) = (precedes_in_window current s r ≡ false) × NoneBefore current r rs

kept_first : (current : CurrentFrameNum) (r s : Reference) (first : Option Reference) → precedes_in_window current s r ≡ false →
    IfSome first (λ t. precedes_in_window current t r ≡ false) → IfSome (first_in_window_of current s first) (λ t. precedes_in_window current t r ≡ false)
kept_first current r s None h k = h
kept_first current r s (Some t) h k = search arith

sorted_head : (current : CurrentFrameNum) (r : Reference) (rs : List Reference) → NoneBefore current r rs →
    IfSome (slice_get (sorted_by (precedes_in_window current) rs) 0) (λ s. precedes_in_window current s r ≡ false)
sorted_head current r [] h = tt
sorted_head current r (s ∷ rs) h =
    rw (first-placed current s (sorted_by (precedes_in_window current) rs)) (kept_first current r s _ h.0 (sorted_head current r rs h.1))

goes_first : (current : CurrentFrameNum) (r : Reference) (rs : List Reference) → NoneBefore current r rs →
    slice_get (sorted_by (precedes_in_window current) (r ∷ rs)) 0 ≡ Some r
goes_first current r rs h = grind (arith, first-placed, sorted_head)

-- a later number that was decoded later
abbrev at : (number max : ℕ) → CurrentFrameNum
at number max = record { frame_num = number % max; max_frame_num = max }

not_before : (max number v w : ℕ) (r s : Reference) → r.frame_num ≡ v % max → s.frame_num ≡ w % max → v < w → w < number → number < v + max → r.decoding_index < s.decoding_index →
    precedes_in_window (record { frame_num = number % max; max_frame_num = max }) s r ≡ false
not_before max number v w r s r_is s_is low high near later =
    let one = seen max number v (omega (arith, low, high)) near in
    let other = seen max number w high (omega (arith, low, near)) in
    let less : int_lt (pic_num_of (at number max) (w % max)) (pic_num_of (at number max) (v % max)) ≡ false = grind (arith, ints) in
    grind (arith, nat_tests)

none_before : (max number v low next lower : ℕ) (r : Reference) (rs : List Reference) → r.frame_num ≡ v % max → v < low → number < v + max →
    CountFrom max low number rs → r.decoding_index < lower → StandFrom lower next rs →
    NoneBefore (record { frame_num = number % max; max_frame_num = max }) r rs
none_before max number v low next lower r [] is before near counts behind indices = tt
none_before max number v low next lower r (s ∷ rs) is before near counts behind indices =
    let w = counts.0 in
    let rest = counts.1 in (
      not_before max number v w r s is (rest.1).frame_num (omega (arith, before, rest.0)) (omega (arith, counted max (w + 1) number rs rest.2)) near (omega (arith, behind, indices.0)),
      none_before max number v (w + 1) next (s.decoding_index + 1) r rs is (omega (arith, before, rest.0)) near rest.2 (omega (arith, behind, indices.0)) indices.1,
    )
  where
    counted : (max low number : ℕ) (rs : List Reference) → CountFrom max low number rs → low ≤ number
    counted max low number [] h = h
    counted max low number (r ∷ rs) h = omega (arith, (h.1).0, counted max (h.0 + 1) number rs (h.1).2)

-- ---- the frames that stay

all_short : (max low next : ℕ) (rs : List Reference) → CountFrom max low next rs → filter is_short rs ≡ rs
all_short max low next [] h = refl
all_short max low next (r ∷ rs) h = grind (arith, (all_short max (h.0 + 1) next rs (h.1).2))

kept_below : (r : Reference) (index : ℕ) (rs : List Reference) → index ≤ r.decoding_index → StandBelow index rs → without_frame r rs ≡ rs
kept_below r index [] low h = refl
kept_below r index (s ∷ rs) low h = grind (arith, ne_eqb, (kept_below r index rs low h.1))

kept_above : (r : Reference) (low next : ℕ) (rs : List Reference) → r.decoding_index < low → StandFrom low next rs → without_frame r rs ≡ rs
kept_above r low next [] before h = refl
kept_above r low next (s ∷ rs) before h = grind (arith, ne_eqb, (kept_above r (s.decoding_index + 1) next rs (omega (arith, before, h.0)) h.1))

without_first : (longs shorts : List Reference) (first : Reference) (start next : ℕ) → StandBelow start longs → StandFrom start next (first ∷ shorts) →
    without_frame first (longs ++ first ∷ shorts) ≡ longs ++ shorts
without_first longs shorts first start next below indices = grind (arith, filter-append, kept_below, eq-eqb, kept_above)

pub window_takes_the_first : WindowTakesTheFirst
window_takes_the_first s decoding_index max low number start longs shorts first m current full counts near is =
    grind (arith, filter-append, all_short, goes_first, none_before, length-append, nat_tests, without_first)
