-- Which frames an entry leaves, how many they may be, and worked examples.
pub mod References
unfoldable pub use References.*
use Rattle.avc_types.specs.declared.fault.Fault.TheVariants as faults

-- ---- a part of reference frames in their order, where only marks may differ: the relation

pub same-refl : (r : Reference) → IsSameFrame r r
same-refl r = record { same_decoding_index = refl; same_frame_num = refl; same_existing = refl }

pub same-trans : (r s t : Reference) → IsSameFrame r s → IsSameFrame s t → IsSameFrame r t
same-trans r s t h k = grind arith

-- one frame more may be passed over
pub part-behind : (xs ys : List Reference) (s : Reference) → IsPartUpToMarks xs ys → IsPartUpToMarks xs (s ∷ ys)
part-behind [] ys s h = tt
part-behind (r ∷ xs) ys s h = inr h

pub part-refl : (xs : List Reference) → IsPartUpToMarks xs xs
part-refl [] = tt
part-refl (r ∷ xs) = inl (same-refl r, part-refl xs)

pub part-trans : (xs ys zs : List Reference) → IsPartUpToMarks xs ys → IsPartUpToMarks ys zs → IsPartUpToMarks xs zs
part-trans [] ys zs h k = tt
part-trans (x ∷ xs) [] zs h k = absurd h
part-trans (x ∷ xs) (y ∷ ys) [] h k = absurd k
part-trans (x ∷ xs) (y ∷ ys) (z ∷ zs) (inl h) (inl k) = inl (same-trans x y z h.0 k.0, part-trans xs ys zs h.1 k.1)
part-trans (x ∷ xs) (y ∷ ys) (z ∷ zs) (inr h) (inl k) = inr (part-trans (x ∷ xs) ys zs h k.1)
part-trans (x ∷ xs) (y ∷ ys) (z ∷ zs) h (inr k) = inr (part-trans (x ∷ xs) (y ∷ ys) zs h k)

pub part-append : (xs ys us vs : List Reference) → IsPartUpToMarks xs ys → IsPartUpToMarks us vs → IsPartUpToMarks (xs ++ us) (ys ++ vs)
part-append [] [] us vs h k = k
part-append [] (y ∷ ys) us vs h k = part-behind us (ys ++ vs) y (part-append [] ys us vs tt k)
part-append (x ∷ xs) [] us vs h k = absurd h
part-append (x ∷ xs) (y ∷ ys) us vs (inl h) k = inl (h.0, part-append xs ys us vs h.1 k)
part-append (x ∷ xs) (y ∷ ys) us vs (inr h) k = inr (part-append (x ∷ xs) ys us vs h k)

pub part-own : (xs ys : List Reference) (own : Reference) → IsPartUpToMarks xs ys → IsPartUpToMarks (xs ++ own ∷ []) (ys ++ own ∷ [])
part-own xs ys own h = part-append xs ys (own ∷ []) (own ∷ []) h (part-refl (own ∷ []))

pub part-front : (xs ys : List Reference) → IsPartUpToMarks xs (xs ++ ys)
part-front [] ys = tt
part-front (x ∷ xs) ys = inl (same-refl x, part-front xs ys)

-- a part of no frames has none
pub part-none : (xs : List Reference) → IsPartUpToMarks xs [] → xs ≡ []
part-none [] h = refl
part-none (x ∷ xs) h = absurd h

-- ---- what makes a part

pub part-filter : (keep : Reference → Bool) (xs : List Reference) → IsPartUpToMarks (filter keep xs) xs
part-filter keep [] = tt
part-filter keep (x ∷ xs) = grind (arith, same-refl, part-behind, (part-filter keep xs))

pub part-map : (change : Reference → Reference) → ((r : Reference) → IsSameFrame (change r) r) → (xs : List Reference) → IsPartUpToMarks (map change xs) xs
part-map change same [] = tt
part-map change same (x ∷ xs) = inl (same x, part-map change same xs)

-- ---- what holds of a part: its entries: which frames an entry leaves: results

-- of a step that goes on only after another
pub after : {A B : Type 0} {r : Result A Fault} {next : A → Result B Fault} {y : B} {P : Type 0} →
    (r >>= next) ≡ Ok y → ((x : A) → r ≡ Ok x → next x ≡ Ok y → P) → P
after {r = Ok x} h k = k x refl h
after {r = Err f} h k = cc

within : (s : MarkingEntry) (m m' : Marks) → within_limit s m ≡ Ok m' → m ≡ m'
within s m m' h = grind arith

-- ---- frames become unused or get another mark

without-part : (named : Result Reference Fault) (xs ys : List Reference) → (named >>= λ r. Ok (without_frame r xs)) ≡ Ok ys → IsPartUpToMarks ys xs
without-part (Ok r) xs ys h = grind (arith, part-filter)
without-part (Err f) xs ys h = cc

mark-part : (r : Reference) (mark : Mark) (xs : List Reference) → IsPartUpToMarks (with_mark r mark xs) xs
mark-part r mark xs = grind (arith, part-map, same-refl)

mark-left : (r : Reference) (mark : Mark) (keep : Reference → Bool) (xs : List Reference) → IsPartUpToMarks (with_mark r mark (filter keep xs)) xs
mark-left r mark keep xs = part-trans _ _ _ (mark-part r mark (filter keep xs)) (part-filter keep xs)

long-part : (named : Result Reference Fault) (index : ℕ) (max_long_term_frame_idx : Option ℕ) (xs ys : List Reference) →
    (named >>= λ r. refuse_unless (r.existing && is_index_allowed index max_long_term_frame_idx) (with_mark r (Long index) (without_long_term_frame_idx index xs))) ≡ Ok ys →
    IsPartUpToMarks ys xs
long-part named index max_long_term_frame_idx xs ys h = grind (arith, mark-left)

-- ---- the operations

-- the entry's own frame, once it has been marked: its frame_num is still that of the slice header
abbrev own_frame : MarkingEntry → (decoding_index : ℕ) → (assigned : Bool) → List Reference
own_frame s decoding_index true = long_term_current s decoding_index 0 ∷ []
own_frame s decoding_index false = []

-- of these frames and the entry's own
abbrev IsLeft : MarkingEntry → (decoding_index : ℕ) → List Reference → OperationState → Type 0
IsLeft s decoding_index ys t = IsPartUpToMarks t.references (ys ++ own_frame s decoding_index t.assigned)

left-kept : (s : MarkingEntry) (decoding_index : ℕ) (ys : List Reference) (t t' : OperationState) → t'.assigned ≡ t.assigned → IsPartUpToMarks t'.references t.references →
    IsLeft s decoding_index ys t → IsLeft s decoding_index ys t'
left-kept s decoding_index ys t t' same part left = grind (arith, part-trans)

left-changed : (s : MarkingEntry) (decoding_index : ℕ) (ys : List Reference) (t t' : OperationState) (changed : Result (List Reference) Fault) →
    ((xs : List Reference) → changed ≡ Ok xs → IsPartUpToMarks xs t.references) → IsLeft s decoding_index ys t → with_references t changed ≡ Ok t' → IsLeft s decoding_index ys t'
left-changed s decoding_index ys t t' (Ok xs) part left h = grind (arith, left-kept, part xs refl)
left-changed s decoding_index ys t t' (Err f) part left h = cc

left-own : (s : MarkingEntry) (decoding_index index : ℕ) (ys xs : List Reference) → IsPartUpToMarks xs (ys ++ []) →
    IsPartUpToMarks (with_long_term_current s index decoding_index xs) (ys ++ long_term_current s decoding_index 0 ∷ [])
left-own s decoding_index index ys xs h =
    part-append _ _ _ _ (part-trans _ _ _ (part-filter (λ t. not (has_long_term_frame_idx index t)) xs) (rw append-nil at h))
    (inl (record { same_decoding_index = refl; same_frame_num = refl; same_existing = refl }, tt))

left-filtered : (s : MarkingEntry) (decoding_index : ℕ) (ys : List Reference) (t : OperationState) (keep : Reference → Bool) → IsLeft s decoding_index ys t →
    IsPartUpToMarks (filter keep t.references) (ys ++ own_frame s decoding_index t.assigned)
left-filtered s decoding_index ys t keep left = part-trans _ _ _ (part-filter keep t.references) left

left-operation : (s : MarkingEntry) (decoding_index : ℕ) (ys : List Reference) (t t' : OperationState) (o : Operation) → IsLeft s decoding_index ys t → after_operation s decoding_index t o ≡ Ok t' → IsLeft s decoding_index ys t'
left-operation s decoding_index ys t t' o left h = grind (arith, left-changed, without-part, long-part, left-filtered, left-own)

left-operations : (s : MarkingEntry) (decoding_index : ℕ) (ys : List Reference) (t t' : OperationState) (os : List Operation) → IsLeft s decoding_index ys t → after_operations s decoding_index t os ≡ Ok t' → IsLeft s decoding_index ys t'
left-operations s decoding_index ys t t' [] left h = grind arith
left-operations s decoding_index ys t t' (o ∷ os) left h = after h (λ u e k. left-operations s decoding_index ys u t' os (left-operation s decoding_index ys t u o left e) k)

-- operation 5 leaves none of the frames before it
unmarks-or-later : (s : MarkingEntry) (decoding_index : ℕ) (t u : OperationState) (o : Operation) (later : Bool) → (is_unmark_all o || later) ≡ true →
    after_operation s decoding_index t o ≡ Ok u →
    IsLeft s decoding_index [] u ⊎ (later ≡ true)
unmarks-or-later s decoding_index t u o later any h = grind arith

left-unmarked : (s : MarkingEntry) (decoding_index : ℕ) (t t' : OperationState) (os : List Operation) → list_any is_unmark_all os ≡ true → after_operations s decoding_index t os ≡ Ok t' → IsLeft s decoding_index [] t'
left-unmarked s decoding_index t t' [] any h = cc
left-unmarked s decoding_index t t' (o ∷ os) any h =
    after h (λ u e k. elim (unmarks-or-later s decoding_index t u o (list_any is_unmark_all os) any e) [
      | inl left ↦ left-operations s decoding_index [] u t' os left k
      | inr later ↦ left-unmarked s decoding_index u t' os later k
    ])

-- ---- the entry's own frame gets its number

own_frame-named : (s : MarkingEntry) (decoding_index : ℕ) (x : Reference) → x.decoding_index ≡ decoding_index →
    IsSameFrame (if x.decoding_index == decoding_index then current_frame s decoding_index x.mark else x) (current_frame s decoding_index Short)
own_frame-named s decoding_index x same = grind (arith, nat_tests)

other_frame-kept : (s : MarkingEntry) (decoding_index : ℕ) (x : Reference) → x.decoding_index < decoding_index → (if x.decoding_index == decoding_index then current_frame s decoding_index x.mark else x) ≡ x
other_frame-kept s decoding_index x below = grind (arith, nat_tests)

part-named : (s : MarkingEntry) (decoding_index : ℕ) (xs ys : List Reference) → All (λ r. r.decoding_index < decoding_index) ys → IsPartUpToMarks xs (ys ++ long_term_current s decoding_index 0 ∷ []) →
    IsPartUpToMarks (map (λ r. if r.decoding_index == decoding_index then current_frame s decoding_index r.mark else r) xs) (ys ++ current_frame s decoding_index Short ∷ [])
part-named s decoding_index [] ys all h = tt
part-named s decoding_index (x ∷ xs) [] all h = grind (arith, own_frame-named, part-none)
part-named s decoding_index (x ∷ xs) (y ∷ ys) all (inl h) =
    let more = part-named s decoding_index xs ys (All-tail (λ r. r.decoding_index < decoding_index) y ys all) h.1 in
    grind (arith, other_frame-kept, All-head (λ r. r.decoding_index < decoding_index) y ys all)
part-named s decoding_index (x ∷ xs) (y ∷ ys) all (inr h) = inr (part-named s decoding_index (x ∷ xs) ys (All-tail (λ r. r.decoding_index < decoding_index) y ys all) h)

part-current : (s : MarkingEntry) (decoding_index : ℕ) (ys : List Reference) (t : OperationState) → All (λ r. r.decoding_index < decoding_index) ys → IsLeft s decoding_index ys t →
    IsPartUpToMarks (with_current_frame s decoding_index t).references (ys ++ current_frame s decoding_index Short ∷ [])
part-current s decoding_index ys t all left = grind (arith, part-named, part-append, append-nil, part-refl)

-- ---- an entry

own-part : (s : MarkingEntry) (decoding_index : ℕ) (mark : Mark) (ys : List Reference) → IsPartUpToMarks (current_frame s decoding_index mark ∷ []) (ys ++ current_frame s decoding_index Short ∷ [])
own-part s decoding_index mark [] = inl (record { same_decoding_index = refl; same_frame_num = refl; same_existing = refl }, tt)
own-part s decoding_index mark (y ∷ ys) = inr (own-part s decoding_index mark ys)

window-part : (s : MarkingEntry) (xs ys : List Reference) → after_sliding_window s xs ≡ Ok ys → IsPartUpToMarks ys xs
window-part s xs ys h = grind (arith, part-refl, without-part)

adaptive-part : (s : MarkingEntry) (decoding_index : ℕ) (m : Marks) (t : OperationState) (ys : List Reference) → All (λ r. r.decoding_index < decoding_index) ys → IsLeft s decoding_index ys t →
    within_limit s (with_current_frame s decoding_index t) ≡ Ok m → IsPartUpToMarks m.references (ys ++ current_frame s decoding_index Short ∷ [])
adaptive-part s decoding_index m t ys all left h = grind (arith, within, part-current)

pub adds_own_frame_alone : AddsOwnFrameAlone
adds_own_frame_alone s decoding_index m m' all h = by_marking s.marking h
  where
    by_marking : (marking : Option Marking) → marks_after s decoding_index marking m ≡ Ok m' → IsPartUpToMarks m'.references (m.references ++ current_frame s decoding_index Short ∷ [])
    by_marking None k = grind (arith, part-front)
    by_marking (Some (Idr no_output false)) k = grind (arith, own-part s decoding_index Short m.references)
    by_marking (Some (Idr no_output true)) k = grind (arith, own-part s decoding_index (Long 0) m.references)
    by_marking (Some SlidingWindow) k = grind (arith, window-part, part-own)
    by_marking (Some (Adaptive operations)) k =
        after k (λ t e. adaptive-part s decoding_index m' t m.references all
        (left-operations s decoding_index m.references (before_operations m) t operations (rw append-nil (part-refl m.references)) e))

pub leaves_own_frame_alone : LeavesOwnFrameAlone
leaves_own_frame_alone s decoding_index m m' emptied h = by_marking s.marking emptied h
  where
    by_marking : (marking : Option Marking) → unmarks_all marking ≡ true → marks_after s decoding_index marking m ≡ Ok m' → IsPartUpToMarks m'.references (current_frame s decoding_index Short ∷ [])
    by_marking None e k = cc
    by_marking (Some (Idr no_output long)) e k = grind (arith, own-part s decoding_index Short [], own-part s decoding_index (Long 0) [])
    by_marking (Some SlidingWindow) e k = cc
    by_marking (Some (Adaptive operations)) e k =
        after k (λ t e'. adaptive-part s decoding_index m' t [] (All-nil (λ r. r.decoding_index < decoding_index)) (left-unmarked s decoding_index (before_operations m) t operations e e'))

-- ---- the window slides again

placed-some : (before : Reference → Reference → Bool) (x : Reference) (ys : List Reference) → is_some (slice_get (placed_by before x ys) 0) ≡ true
placed-some before x [] = refl
placed-some before x (y ∷ ys) = grind arith

first-some : (current : CurrentFrameNum) (xs : List Reference) → list_any is_short xs ≡ true → is_some (first_in_window current xs) ≡ true
first-some current [] h = cc
first-some current (x ∷ xs) h = grind (arith, placed-some, (first-some current xs))

-- where there is a short-term frame, an entry can be marked by the sliding window
pub slides : (s : MarkingEntry) (decoding_index : ℕ) (m : Marks) → list_any is_short m.references ≡ true → is_ok (marks_after s decoding_index (Some SlidingWindow) m) ≡ true
slides s decoding_index m short = grind (arith, first-some s.current m.references short)

last-short : (xs : List Reference) (last : Reference) → is_short last ≡ true → list_any is_short (xs ++ last ∷ []) ≡ true
last-short xs last h = grind (arith, list_any-append)

-- the entry's own frame is a short-term one
pub window-short : (s : MarkingEntry) (decoding_index : ℕ) (m m' : Marks) → marks_after s decoding_index (Some SlidingWindow) m ≡ Ok m' → list_any is_short m'.references ≡ true
window-short s decoding_index m m' h = grind (arith, after, last-short)

pub slides_again : SlidesAgain
slides_again s s' decoding_index decoding_index' m m' h = slides s' decoding_index' m' (window-short s decoding_index m m' h)

-- ---- how many reference frames there may be: the frame that slides is one of them

abbrev is_there : Reference → List Reference → Bool
is_there r references = list_any (λ s. s.decoding_index == r.decoding_index) references

later_too : (a b c : Bool) → (b ≡ true → c ≡ true) → (a || b) ≡ true → (a || c) ≡ true
later_too true b c h k = refl
later_too false b c h k = h k

there-filter : (p : Reference → Bool) (r : Reference) (xs : List Reference) → is_there r (filter p xs) ≡ true → is_there r xs ≡ true
there-filter p r [] h = grind arith
there-filter p r (x ∷ xs) h = grind (arith, later_too, or_right, (there-filter p r xs))

there-sorted : (current : CurrentFrameNum) (r : Reference) (xs : List Reference) → slice_get (sorted_by (precedes_in_window current) xs) 0 ≡ Some r → is_there r xs ≡ true
there-sorted current r [] h = cc
there-sorted current r (x ∷ xs) h = grind (arith, first-placed, or_left, eq-eqb, or_right, (there-sorted current r xs))

fewer : (r : Reference) (xs : List Reference) → is_there r xs ≡ true → length (without_frame r xs) + 1 ≤ length xs
fewer r [] h = cc
fewer r (x ∷ xs) h = grind (arith, length-filter, count_by-le-length, (fewer r xs))

slides-fewer : (current : CurrentFrameNum) (xs : List Reference) (r : Reference) → first_in_window current xs ≡ Some r →
    length (without_frame r xs) + 1 ≤ length xs
slides-fewer current xs r h = fewer r xs (there-filter is_short r xs (there-sorted current r (filter is_short xs) h))

-- ---- one entry

after_sliding_window-fewer : (n : ℕ) (s : MarkingEntry) (xs ys : List Reference) → limit_of s ≤ n → length xs ≤ n → after_sliding_window s xs ≡ Ok ys → length ys + 1 ≤ n
after_sliding_window-fewer n s xs ys most few h = grind (arith, slides-fewer, nat_tests)

within-limit : (n : ℕ) (s : MarkingEntry) (m m' : Marks) → limit_of s ≤ n → within_limit s m ≡ Ok m' → length m'.references ≤ n
within-limit n s m m' most h = grind (arith, nat_tests)

pub stays-with_max_long_term_frame_idx : StaysLimited
stays-with_max_long_term_frame_idx n s decoding_index m m' most few h = grind (arith, after_sliding_window-fewer n s m.references, within-limit n s, length-append)

pub is-with_max_long_term_frame_idx : IsLimited
is-with_max_long_term_frame_idx n [] m all h = grind arith
is-with_max_long_term_frame_idx n (s ∷ older) m all h =
    after h (λ before e. stays-with_max_long_term_frame_idx n s (length older) before m (All-head (λ t. limit_of t ≤ n) s older all)
    (is-with_max_long_term_frame_idx n older before (All-tail (λ t. limit_of t ≤ n) s older all) e))

-- ---- worked examples of marking

abbrev entry_row : ℕ → Option Marking → MarkingEntry
entry_row frame_num marking = record {
  current = record { frame_num = frame_num; max_frame_num = 16 };
  max_num_ref_frames = 2;
  existing = true;
  marking = marking;
}

abbrev idr : MarkingEntry
idr = entry_row 0 (Some (Idr false false))

abbrev p : ℕ → MarkingEntry
p n = entry_row n (Some SlidingWindow)

abbrev seen_row : Result Marks Fault → Result (List (ℕ × ℕ × Mark)) Fault
seen_row (Ok m) = Ok (map (λ r. (r.decoding_index, r.frame_num, r.mark)) m.references)
seen_row (Err f) = Err f

-- a long-term frame, then operations that name it and that limit the indices
two_long : List MarkingEntry
two_long = entry_row 2 (Some (Adaptive (AssignLongTerm 0 1 ∷ CurrentToLongTerm 0 ∷ []))) ∷ entry_row 1 (Some (Adaptive (MaxLongTermFrameIdx 2 ∷ UnmarkShortTerm 0 ∷ []))) ∷ idr ∷ []

-- ---- worked examples, a row each

record WorkedRows : Type 0 where
  slides_row : seen_row (marks (p 2 ∷ p 1 ∷ idr ∷ [])) ≡ Ok ((1, 1, Short) ∷ (2, 2, Short) ∷ [])
  to_long : seen_row (marks (entry_row 1 (Some (Adaptive (MaxLongTermFrameIdx 1 ∷ AssignLongTerm 0 0 ∷ []))) ∷ idr ∷ [])) ≡ Ok ((0, 0, Long 0) ∷ (1, 1, Short) ∷ [])
  no_index : seen_row (marks (entry_row 1 (Some (Adaptive (AssignLongTerm 0 0 ∷ []))) ∷ idr ∷ [])) ≡ Err faults.BadMarking
  all_forgotten : seen_row (marks (entry_row 2 (Some (Adaptive (UnmarkAll ∷ []))) ∷ p 1 ∷ idr ∷ [])) ≡ Ok ((2, 0, Short) ∷ [])
  too_many : seen_row (marks (entry_row 2 (Some (Adaptive [])) ∷ p 1 ∷ idr ∷ [])) ≡ Err faults.TooManyReferences
  gap : missing_frame_nums (prev_ref_frame_num (p 14 ∷ [])) true (p 1) ≡ Ok (15 ∷ 0 ∷ [])
  no_gap : missing_frame_nums (prev_ref_frame_num (p 15 ∷ [])) true (p 0) ≡ Ok []
  refused_gap : missing_frame_nums 0 false (p 2) ≡ Err faults.FrameNumGap
  repeated : missing_frame_nums 0 false (p 0) ≡ Err faults.FrameNumRepeated
  current_long : seen_row (marks (entry_row 1 (Some (Adaptive (MaxLongTermFrameIdx 1 ∷ CurrentToLongTerm 0 ∷ []))) ∷ idr ∷ [])) ≡ Ok ((0, 0, Short) ∷ (1, 1, Long 0) ∷ [])
  twice_current : seen_row (marks (entry_row 1 (Some (Adaptive (MaxLongTermFrameIdx 2 ∷ CurrentToLongTerm 0 ∷ CurrentToLongTerm 1 ∷ []))) ∷ idr ∷ [])) ≡ Err faults.BadMarking
  -- the index goes over to the current frame
  taken_index : seen_row (marks (entry_row 2 (Some (Adaptive (CurrentToLongTerm 0 ∷ []))) ∷ entry_row 1 (Some (Adaptive (MaxLongTermFrameIdx 1 ∷ AssignLongTerm 0 0 ∷ []))) ∷ idr ∷ [])) ≡ Ok ((1, 1, Short) ∷ (2, 2, Long 0) ∷ [])
  long_idr : seen_row (marks (entry_row 0 (Some (Idr false true)) ∷ p 1 ∷ idr ∷ [])) ≡ Ok ((2, 0, Long 0) ∷ [])
  -- only short-term frames slide, and there is none
  no_short : seen_row (marks (p 2 ∷ entry_row 1 (Some (Adaptive (MaxLongTermFrameIdx 2 ∷ AssignLongTerm 0 0 ∷ CurrentToLongTerm 1 ∷ []))) ∷ idr ∷ [])) ≡ Err faults.TooManyReferences
  -- 15 is the least PicNum seen from 1
  wrapped : seen_row (marks (p 1 ∷ p 0 ∷ p 15 ∷ [])) ≡ Ok ((1, 0, Short) ∷ (2, 1, Short) ∷ [])
  -- a frame for a missing number may not become long-term
  not_existing : seen_row (marks (entry_row 2 (Some (Adaptive (MaxLongTermFrameIdx 1 ∷ AssignLongTerm 0 0 ∷ []))) ∷ missing_frame_entry idr 1 ∷ idr ∷ [])) ≡ Err faults.BadMarking
  after_forgetting : prev_ref_frame_num (entry_row 5 (Some (Adaptive (UnmarkAll ∷ []))) ∷ idr ∷ []) ≡ 0
  short_forgotten : seen_row (marks (entry_row 2 (Some (Adaptive (UnmarkShortTerm 1 ∷ []))) ∷ p 1 ∷ idr ∷ [])) ≡ Ok ((1, 1, Short) ∷ (2, 2, Short) ∷ [])
  both_long : seen_row (marks two_long) ≡ Ok ((1, 1, Long 1) ∷ (2, 2, Long 0) ∷ [])
  long_forgotten : seen_row (marks (entry_row 3 (Some (Adaptive (UnmarkLongTerm 0 ∷ []))) ∷ two_long)) ≡ Ok ((1, 1, Long 1) ∷ (3, 3, Short) ∷ [])
  indices_limited : seen_row (marks (entry_row 3 (Some (Adaptive (MaxLongTermFrameIdx 1 ∷ []))) ∷ two_long)) ≡ Ok ((2, 2, Long 0) ∷ (3, 3, Short) ∷ [])
  no_such_long : seen_row (marks (entry_row 3 (Some (Adaptive (UnmarkLongTerm 2 ∷ []))) ∷ two_long)) ≡ Err faults.BadMarking
  -- the picture's own mark may be taken away again, and it is then no reference frame
  own_mark_taken : seen_row (marks (entry_row 1 (Some (Adaptive (MaxLongTermFrameIdx 1 ∷ CurrentToLongTerm 0 ∷ UnmarkLongTerm 0 ∷ []))) ∷ idr ∷ [])) ≡ Ok ((0, 0, Short) ∷ [])
  -- of two short-term frames with one number the one that was decoded last is named
  later_named : seen_row (marks (entry_row 2 (Some (Adaptive (UnmarkShortTerm 0 ∷ []))) ∷ entry_row 1 (Some (Adaptive [])) ∷ entry_row 1 (Some (Adaptive [])) ∷ [])) ≡ Ok ((0, 1, Short) ∷ (2, 2, Short) ∷ [])

worked_rows : WorkedRows
unfolding two_long
worked_rows = search rules
