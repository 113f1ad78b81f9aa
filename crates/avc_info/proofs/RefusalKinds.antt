-- The kinds of refusals are those of all of them, one more at a time, and no more than there are numbers of faults.
pub use Rattle.std.proofs.Common.{◌≡◌, ℕ, zero, suc, ◌+◌, ◌<◌, ◌≤◌, ◌==◌, ◌||◌, eqb, nat_lt, min, Bool, true, false, not, cond, if◌then◌else◌, List, [], ◌∷◌, ◌++◌, length, map, set, get_or, drop, position, take_at, length-set, filter, Some, None, ap, sym, ◌∙◌, refl, subst, arith, length-append}
use Rattle.std.proofs.lemmas.Bool.Decides.{nat_tests}
use Rattle.std.proofs.lemmas.List.{length-map}
use Rattle.std.proofs.lemmas.List.Elements.{filter-append}
use Rattle.std.proofs.lemmas.List.Quantifiers.{position-Some}
use Rattle.std.proofs.lemmas.Map.Steps.{length-le_from_distinct_below}
use Rattle.std.specs.List.{AllByRecursion, IsDistinct, list_any, prefix_len, refill}
use Rattle.avc_types.specs.Faults.{number_of}
use Rattle.avc_types.specs.declared.fault.Fault.{Fault}
use Rattle.avc_types.specs.declared.fault.Fault.TheVariants.{Cabac, NoParameterSet, Profile}
pub use Rattle.avc_annexb.specs.Units.{saturated}
pub use Rattle.avc_info.specs.Refusals.{count_of, is_fault, kind_of, kinds_of, most_kinds, one_more, with_refusal}
use Rattle.avc_info.specs.declared.refusals.Refusal.{Refusal}
pub use Rattle.avc_info.specs.declared.refusals.RefusalKind.{RefusalKind}
use Rattle.avc_info.proofs.FaultNumbers.{number_below}

-- ---- tests of numbers

same : (a b : ℕ) → (a == b) ≡ true → a ≡ b
same a b is = grind (arith, nat_tests)

turned : (a b : ℕ) (is : Bool) → (a == b) ≡ is → (b == a) ≡ is
turned a b true is = grind (arith, nat_tests)
turned a b false is = grind (arith, nat_tests)

pub itself : (a : ℕ) → (a == a) ≡ true
itself a = grind (arith, nat_tests)

-- ---- how many there are

-- the others: those of other faults
abbrev others : Fault → List RefusalKind → List RefusalKind
others fault kinds = filter (λ k. not (is_fault fault k.fault)) kinds

one_counted : (fault : Fault) (r : Refusal) (is : Bool) → is_fault fault r.fault ≡ is → count_of fault (r ∷ []) ≡ (if is then 1 else 0)
one_counted fault r true is = ap (λ b. length (cond b (r ∷ []) [])) is
one_counted fault r false is = ap (λ b. length (cond b (r ∷ []) [])) is

counted_more : (fault : Fault) (rs : List Refusal) (r : Refusal) (is : Bool) → is_fault fault r.fault ≡ is
    → count_of fault (rs ++ r ∷ []) ≡ count_of fault rs + (if is then 1 else 0)
counted_more fault rs r is test =
    ap length (filter-append (λ (r : Refusal). is_fault fault r.fault) rs (r ∷ []))
    ∙ length-append (filter (λ (r : Refusal). is_fault fault r.fault) rs) (filter (λ (r : Refusal). is_fault fault r.fault) (r ∷ []))
    ∙ ap (λ n. count_of fault rs + n) (one_counted fault r is test)

saturated_more : (n m : ℕ) → m ≡ n + 1 → saturated m ≡ saturated (saturated n + 1)
saturated_more n m is = omega (arith, is)

-- ---- one refusal more

-- of this fault
kind_leaves : (f : Fault) (x : Refusal) (k : RefusalKind) (ks : List RefusalKind) (is : Bool) → is_fault x.fault k.fault ≡ is → is_fault f x.fault ≡ true
    → others f (with_refusal x ks) ≡ others f ks → others f (if is then one_more k ∷ ks else k ∷ with_refusal x ks) ≡ others f (k ∷ ks)
kind_leaves f x k ks true is of_it before =
    let it : is_fault f k.fault ≡ true = grind (arith, nat_tests) in
    ap (λ b. cond (not b) (one_more k ∷ others f ks) (others f ks)) it
    ∙ sym (ap (λ b. cond (not b) (k ∷ others f ks) (others f ks)) it)
kind_leaves f x k ks false is of_it before = ap (λ (l : List RefusalKind). cond (not (is_fault f k.fault)) (k ∷ l) l) before

still_others : (f : Fault) (x : Refusal) → is_fault f x.fault ≡ true → (ks : List RefusalKind) → others f (with_refusal x ks) ≡ others f ks
still_others f x of_it [] = ap (λ b. cond (not b) (kind_of x (x ∷ []) ∷ []) []) of_it
still_others f x of_it (k ∷ ks) = kind_leaves f x k ks (is_fault x.fault k.fault) refl of_it (still_others f x of_it ks)

-- of another
kind_stays : (f : Fault) (x : Refusal) (k : RefusalKind) (ks : List RefusalKind) (is it : Bool) → is_fault x.fault k.fault ≡ is → is_fault f k.fault ≡ it
    → is_fault f x.fault ≡ false → others f (with_refusal x ks) ≡ with_refusal x (others f ks)
    → others f (if is then one_more k ∷ ks else k ∷ with_refusal x ks) ≡ with_refusal x (cond (not it) (k ∷ others f ks) (others f ks))
kind_stays f x k ks true true is it other before =
    let not_it : is_fault f k.fault ≡ false = grind (arith, nat_tests) in
    absurd (cc (it, not_it))
kind_stays f x k ks true false is it other before =
    ap (λ b. cond (not b) (one_more k ∷ others f ks) (others f ks)) it
    ∙ sym (ap (λ (b : Bool). if b then one_more k ∷ others f ks else k ∷ with_refusal x (others f ks)) is)
kind_stays f x k ks false true is it other before =
    ap (λ b. cond (not b) (k ∷ others f (with_refusal x ks)) (others f (with_refusal x ks))) it ∙ before
kind_stays f x k ks false false is it other before =
    ap (λ b. cond (not b) (k ∷ others f (with_refusal x ks)) (others f (with_refusal x ks))) it
    ∙ ap (λ (l : List RefusalKind). k ∷ l) before
    ∙ sym (ap (λ (b : Bool). if b then one_more k ∷ others f ks else k ∷ with_refusal x (others f ks)) is)

others_more : (f : Fault) (x : Refusal) → is_fault f x.fault ≡ false → (ks : List RefusalKind) → others f (with_refusal x ks) ≡ with_refusal x (others f ks)
others_more f x other [] = ap (λ b. cond (not b) (kind_of x (x ∷ []) ∷ []) []) other
others_more f x other (k ∷ ks) =
    kind_stays f x k ks (is_fault x.fault k.fault) (is_fault f k.fault) refl refl other (others_more f x other ks)

-- of all kinds
abbrev pub kind_with : Refusal → ℕ → RefusalKind
kind_with r n = record { fault = r.fault; count = n; first_unit = r.unit }

first_more : (x r : Refusal) (rs : List Refusal) (is : Bool) → is_fault x.fault r.fault ≡ is → with_refusal x (kinds_of rs) ≡ kinds_of (rs ++ x ∷ [])
    → (if is then one_more (kind_of r (r ∷ rs)) ∷ others r.fault (kinds_of rs) else kind_of r (r ∷ rs) ∷ with_refusal x (others r.fault (kinds_of rs)))
    ≡ kind_of r ((r ∷ rs) ++ x ∷ []) ∷ others r.fault (kinds_of (rs ++ x ∷ []))
first_more x r rs true is before =
    let back = turned (number_of r.fault) (number_of x.fault) true is in
    ap (λ n. kind_with r n ∷ others r.fault (kinds_of rs))
    (sym (saturated_more (count_of r.fault (r ∷ rs)) (count_of r.fault ((r ∷ rs) ++ x ∷ [])) (counted_more r.fault (r ∷ rs) x true back)))
    ∙ ap (λ l. kind_of r ((r ∷ rs) ++ x ∷ []) ∷ l) (sym (still_others r.fault x back (kinds_of rs)) ∙ ap (others r.fault) before)
first_more x r rs false is before =
    let back = turned (number_of r.fault) (number_of x.fault) false is in
    let as_many : count_of r.fault (r ∷ rs) ≡ count_of r.fault ((r ∷ rs) ++ x ∷ []) = omega (arith, counted_more r.fault (r ∷ rs) x false back) in
    ap (λ n. kind_with r (saturated n) ∷ with_refusal x (others r.fault (kinds_of rs))) as_many
    ∙ ap (λ l. kind_of r ((r ∷ rs) ++ x ∷ []) ∷ l) (sym (others_more r.fault x back (kinds_of rs)) ∙ ap (others r.fault) before)

kinds_more : (x : Refusal) (rs : List Refusal) → with_refusal x (kinds_of rs) ≡ kinds_of (rs ++ x ∷ [])
kinds_more x [] = refl
kinds_more x (r ∷ rs) = first_more x r rs (is_fault x.fault r.fault) refl (kinds_more x rs)

-- ---- how many kinds there are

abbrev numbers : List RefusalKind → List ℕ
numbers kinds = map (λ k. number_of k.fault) kinds

-- what holds of all holds of some
one_holds : (P : ℕ → Type 0) (p : RefusalKind → Bool) (k : RefusalKind) (ks : List RefusalKind) (is : Bool) → P (number_of k.fault)
    → AllByRecursion P (numbers (filter p ks)) → AllByRecursion P (numbers (cond is (k ∷ filter p ks) (filter p ks)))
one_holds P p k ks true first rest = (first, rest)
one_holds P p k ks false first rest = rest

some_hold : (P : ℕ → Type 0) (p : RefusalKind → Bool) (ks : List RefusalKind) → AllByRecursion P (numbers ks) → AllByRecursion P (numbers (filter p ks))
some_hold P p [] all = tt
some_hold P p (k ∷ ks) all = one_holds P p k ks (p k) all.0 (some_hold P p ks all.1)

-- the kinds of others are of other faults
one_other : (f : Fault) (k : RefusalKind) (ks : List RefusalKind) (is : Bool) → is_fault f k.fault ≡ is
    → AllByRecursion (λ n. eqb (number_of f) n ≡ false) (numbers (others f ks))
    → AllByRecursion (λ n. eqb (number_of f) n ≡ false) (numbers (cond (not is) (k ∷ others f ks) (others f ks)))
one_other f k ks true is rest = rest
one_other f k ks false is rest = (turned (number_of k.fault) (number_of f) false is, rest)

other_numbers : (f : Fault) (ks : List RefusalKind) → AllByRecursion (λ n. eqb (number_of f) n ≡ false) (numbers (others f ks))
other_numbers f [] = tt
other_numbers f (k ∷ ks) = one_other f k ks (is_fault f k.fault) refl (other_numbers f ks)

one_distinct : (p : RefusalKind → Bool) (k : RefusalKind) (ks : List RefusalKind) (is : Bool) → IsDistinct eqb (numbers (k ∷ ks))
    → IsDistinct eqb (numbers (filter p ks)) → IsDistinct eqb (numbers (cond is (k ∷ filter p ks) (filter p ks)))
unfolding IsDistinct
one_distinct p k ks true all rest = (some_hold (λ n. eqb (number_of k.fault) n ≡ false) p ks all.0, rest)
one_distinct p k ks false all rest = rest

still_distinct : (p : RefusalKind → Bool) (ks : List RefusalKind) → IsDistinct eqb (numbers ks) → IsDistinct eqb (numbers (filter p ks))
unfolding IsDistinct
still_distinct p [] all = tt
still_distinct p (k ∷ ks) all = one_distinct p k ks (p k) all (still_distinct p ks all.1)

are_distinct : (rs : List Refusal) → IsDistinct eqb (numbers (kinds_of rs))
unfolding IsDistinct
are_distinct [] = tt
are_distinct (r ∷ rs) =
    (other_numbers r.fault (kinds_of rs), still_distinct (λ k. not (is_fault r.fault k.fault)) (kinds_of rs) (are_distinct rs))

one_below : (k : RefusalKind) (ks : List RefusalKind) (q : ℕ) (is : Bool) → eqb q (number_of k.fault) ≡ is
    → (list_any (eqb q) (numbers ks) ≡ true → q < most_kinds) → (is || list_any (eqb q) (numbers ks)) ≡ true → q < most_kinds
one_below k ks q true is rest found = subst (λ n. n < most_kinds) (sym (same q (number_of k.fault) is)) (number_below k.fault)
one_below k ks q false is rest found = rest found

are_below : (ks : List RefusalKind) (q : ℕ) → list_any (eqb q) (numbers ks) ≡ true → q < most_kinds
are_below [] q is = absurd (cc is)
are_below (k ∷ ks) q is = one_below k ks q (eqb q (number_of k.fault)) refl (are_below ks q) is

kinds_fit : (rs : List Refusal) → length (kinds_of rs) ≤ most_kinds
kinds_fit rs =
    subst (λ n. n ≤ most_kinds) (length-map (kinds_of rs) (λ (k : RefusalKind). number_of k.fault))
    (length-le_from_distinct_below (numbers (kinds_of rs)) most_kinds (are_distinct rs) (are_below (kinds_of rs)))

-- ---- of a list that is kept

pub more_fit : (x : Refusal) (rs : List Refusal) (ks : List RefusalKind) → ks ≡ kinds_of rs → length (with_refusal x ks) ≤ most_kinds
more_fit x rs ks are =
    subst (λ (l : List RefusalKind). length l ≤ most_kinds) (sym (ap (with_refusal x) are ∙ kinds_more x rs)) (kinds_fit (rs ++ x ∷ []))

pub kept_more : (x : Refusal) (rs rs' : List Refusal) (ks ks' : List RefusalKind) → ks ≡ kinds_of rs → ks' ≡ with_refusal x ks → rs' ≡ rs ++ x ∷ [] → ks' ≡ kinds_of rs'
kept_more x rs rs' ks ks' are counted joined = counted ∙ ap (with_refusal x) are ∙ kinds_more x rs ∙ sym (ap kinds_of joined)

-- the place of a kind is found
counted_at : (x : Refusal) (ks : List RefusalKind) (place : ℕ) (d : RefusalKind) → place < length ks → is_fault x.fault (get_or ks place d).fault ≡ true
    → ((k : ℕ) → k < place → is_fault x.fault (get_or ks k d).fault ≡ false) → set ks place (one_more (get_or ks place d)) ≡ with_refusal x ks
counted_at x [] place d low here before = absurd (omega (arith, low))
counted_at x (k ∷ ks) zero d low here before = sym (ap (λ (b : Bool). if b then one_more k ∷ ks else k ∷ with_refusal x ks) here)
counted_at x (k ∷ ks) (suc place) d low here before =
    ap (λ (l : List RefusalKind). k ∷ l) (counted_at x ks place d (omega (arith, low)) here (λ j h. before (suc j) (omega (arith, h))))
    ∙ sym (ap (λ (b : Bool). if b then one_more k ∷ ks else k ∷ with_refusal x ks) (before 0 (omega arith)))

pub counted_found : (x : Refusal) (ks : List RefusalKind) (place : ℕ) (d : RefusalKind) → position (λ k. is_fault x.fault k.fault) ks ≡ Some place
    → (place < length ks) × (set ks place (one_more (get_or ks place d)) ≡ with_refusal x ks)
counted_found x ks place d found =
    let at = position-Some (λ (k : RefusalKind). is_fault x.fault k.fault) ks place d found in
    (at.0, counted_at x ks place d at.0 at.1 at.2)

-- what was written over all elements
pub counted_there : (x : Refusal) (ks lent : List RefusalKind) (place n : ℕ) (d : RefusalKind) → position (λ k. is_fault x.fault k.fault) ks ≡ Some place
    → lent ≡ ks → n ≡ saturated ((get_or ks place d).count + 1)
    → refill (length ks) ks (set lent place (record { fault = (get_or lent place d).fault; count = n; first_unit = (get_or lent place d).first_unit }))
    ≡ with_refusal x ks
counted_there x ks lent place n d found same more =
    let at = counted_found x ks place d found in
    let changed = set ks place (one_more (get_or ks place d)) in
    ap (λ (l : List RefusalKind). refill (length ks) ks (set l place (record { fault = (get_or l place d).fault; count = n; first_unit = (get_or l place d).first_unit })))
    same
    ∙ ap (λ m. refill (length ks) ks (set ks place (record { fault = (get_or ks place d).fault; count = m; first_unit = (get_or ks place d).first_unit }))) more
    ∙ take_at changed (drop (length changed) ks) (length ks) (length-set ks place (one_more (get_or ks place d)))
    ∙ at.1

-- none is found
none_found : (found : Bool) (place : ℕ) → cond found (Some place) None ≡ None → found ≡ false
none_found true place is = absurd (cc is)
none_found false place is = refl

abbrev first_place : Refusal → List RefusalKind → ℕ
first_place x ks = prefix_len (λ k. not (is_fault x.fault k.fault)) ks

some_left : (n : ℕ) → nat_lt 0 (suc n) ≡ false → ⊥
some_left n is = grind (arith, nat_tests)

added_behind : (x : Refusal) (k : RefusalKind) (ks : List RefusalKind) (is : Bool) → nat_lt (cond (not is) (1 + first_place x ks) 0) (suc (length ks)) ≡ false
    → (nat_lt (first_place x ks) (length ks) ≡ false → with_refusal x ks ≡ ks ++ kind_of x (x ∷ []) ∷ [])
    → (if is then one_more k ∷ ks else k ∷ with_refusal x ks) ≡ k ∷ (ks ++ kind_of x (x ∷ []) ∷ [])
added_behind x k ks true none before = absurd (some_left (length ks) none)
added_behind x k ks false none before = ap (λ (l : List RefusalKind). k ∷ l) (before (grind (arith, nat_tests)))

added : (x : Refusal) (ks : List RefusalKind) → nat_lt (first_place x ks) (length ks) ≡ false → with_refusal x ks ≡ ks ++ kind_of x (x ∷ []) ∷ []
added x [] none = refl
added x (k ∷ ks) none = added_behind x k ks (is_fault x.fault k.fault) none (added x ks)

pub added_last : (x : Refusal) (ks : List RefusalKind) → position (λ k. is_fault x.fault k.fault) ks ≡ None → with_refusal x ks ≡ ks ++ kind_of x (x ∷ []) ∷ []
added_last x ks none = added x ks (none_found (nat_lt (first_place x ks) (length ks)) (first_place x ks) none)

pub room_left : (x : Refusal) (ks : List RefusalKind) → position (λ k. is_fault x.fault k.fault) ks ≡ None → length (with_refusal x ks) ≤ most_kinds
    → length ks < most_kinds
room_left x ks none fit = omega (arith, fit, ap length (added_last x ks none), length-append ks (kind_of x (x ∷ []) ∷ []))

-- the first of its kind
pub first_is : (x : Refusal) → kind_with x 1 ≡ kind_of x (x ∷ [])
first_is x = ap (λ b. kind_with x (saturated (length (cond b (x ∷ []) [])))) (sym (itself (number_of x.fault)))

-- ---- a worked example

abbrev refused : ℕ → Fault → Refusal
refused unit fault = record { unit = unit; fault = fault }

three_kinds : kinds_of (refused 0 Profile ∷ refused 1 Cabac ∷ refused 4 NoParameterSet ∷ refused 5 Profile ∷ refused 9 NoParameterSet ∷ refused 11 Profile ∷ [])
    ≡ record { fault = Profile; count = 3; first_unit = 0 }
    ∷ record { fault = Cabac; count = 1; first_unit = 1 }
    ∷ record { fault = NoParameterSet; count = 2; first_unit = 4 } ∷ []
three_kinds = refl
