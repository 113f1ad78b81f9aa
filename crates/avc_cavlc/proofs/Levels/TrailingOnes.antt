-- Trailing ones and runs: how they are read, and where a value is put.
pub mod Common
unfoldable pub use Common.*
use Rattle.avc_types.specs.declared.fault.Fault.TheVariants as faults

-- ---- reading runs, and how many places they take: what came before a value

pub record Before {A B : Type 0} (part : Result (A × Bits) Fault) (next : A → Read B) (y : B) (after : Bits) : Type 0 where
  pub value : A
  pub left : Bits
  pub first : part ≡ Ok (value, left)
  pub second : next value left ≡ Ok (y, after)

pub before : {A B : Type 0} (part : Result (A × Bits) Fault) (next : A → Read B) (b : Bits) (y : B) (after : Bits) → ((λ _. part) >>= next) b ≡ Ok (y, after) → Before part next y after
before (Ok p) next b y after is = record { value = p.0; left = p.1; first = refl; second = is }
before (Err f) next b y after is = cc

pub ok_parts : {A B : Type 0} {x y : A} {a b : B} → ◌≡◌ {A = Result (A × B) Fault} (Ok (x, a)) (Ok (y, b)) → (x ≡ y) × (a ≡ b)
ok_parts is = grind arith

checked : (test : Bool) (f : Fault) (x y : ℕ) (b after : Bits) → ((check test f >> give x) b) ≡ Ok (y, after) → (test ≡ true) × (x ≡ y)
checked true f x y b after is = (refl, (ok_parts is).0)
checked false f x y b after is = cc

-- ---- one run

-- a run is coded
pub run_coded : (others zeros_left : ℕ) → others ≢ 0 → zeros_left ≢ 0 → run others zeros_left ≡ run_before zeros_left
run_coded zero zeros_left some left = absurd (some refl)
run_coded (suc others) zero some left = absurd (left refl)
run_coded (suc others) (suc zeros_left) some left = refl

run_before_most : (zeros_left gap : ℕ) (b after : Bits) → run_before zeros_left b ≡ Ok (gap, after) → gap ≤ zeros_left
run_before_most zeros_left gap b after is =
    let found = before (table_code (run_table zeros_left) b) (λ r. check (nat_le r zeros_left) faults.BadCode >> give r) b gap after is in
    let test = checked (nat_le found.value zeros_left) faults.BadCode found.value gap found.left after found.second in
    let most : found.value ≤ zeros_left = leb-true found.value zeros_left test.0 in
    omega (arith, test.1)

pub run_most : (others zeros_left gap : ℕ) (b after : Bits) → run others zeros_left b ≡ Ok (gap, after) → gap ≤ zeros_left
run_most (suc others) (suc zeros_left) gap b after is = run_before_most (suc zeros_left) gap b after is
run_most others zeros_left gap b after is = omega (arith, (ok_parts is).0)

pub run_last : (others zeros_left gap : ℕ) (b after : Bits) → run others zeros_left b ≡ Ok (gap, after) → others ≡ 0 → zeros_left ≡ gap
run_last zero zeros_left gap b after is last = (ok_parts is).0
run_last (suc others) zeros_left gap b after is last = absurd (omega arith)

-- ---- the places

pub each_more : (v : ℤ) (values : List ℤ) (gap : ℕ) (zero_runs : List ℕ) →
    each_after_zeros (v ∷ values) (gap ∷ zero_runs) ≡ each_after_zeros values zero_runs ++ (replicate gap (pos 0) ++ v ∷ [])
each_more v values gap zero_runs = grind (arith, reverse_onto, flat_map-append, reverse, append-nil)

length_each_more : (v : ℤ) (values : List ℤ) (gap : ℕ) (zero_runs : List ℕ) → length (each_after_zeros (v ∷ values) (gap ∷ zero_runs)) ≡ length (each_after_zeros values zero_runs) + (gap + 1)
length_each_more v values gap zero_runs = grind (arith, each_more, length-append, length-replicate)

abbrev then_runs : ℕ → ℕ → ℕ → Read (List ℕ)
then_runs n zeros_left gap = runs n (zeros_left - gap) >>= (λ others. give (gap ∷ others))

-- the levels and the gap before them
pub runs_length : (n : ℕ) (values : List ℤ) (zeros_left : ℕ) (zero_runs : List ℕ) (b after : Bits) → length values ≡ n → (n ≡ 0 → zeros_left ≡ 0) → runs n zeros_left b ≡ Ok (zero_runs, after) →
    length (each_after_zeros values zero_runs) ≡ n + zeros_left
runs_length zero [] zeros_left zero_runs b after long none is = omega (arith, none refl)
runs_length (suc n) (v ∷ values) zeros_left zero_runs b after long none is =
    let one = before (run n zeros_left b) (then_runs n zeros_left) b zero_runs after is in
    let others = before (runs n (zeros_left - one.value) one.left) (λ o. give (one.value ∷ o)) one.left zero_runs after one.second in
    let same : one.value ∷ others.value ≡ zero_runs = (ok_parts others.second).0 in
    let last : n ≡ 0 → zeros_left - one.value ≡ 0 = λ e. omega (arith, run_last n zeros_left one.value b one.left one.first e) in
    let rest = runs_length n values (zeros_left - one.value) others.value one.left others.left (omega arith) last others.first in
    ap (λ l. length (each_after_zeros (v ∷ values) l)) (sym same) ∙ length_each_more v values one.value others.value ∙ omega (arith, rest, run_most n zeros_left one.value b one.left one.first)
runs_length _ _ zeros_left zero_runs b after long none is = absurd (omega arith)

-- ---- one value more is put in its place: reading

after_run : (r : Result (List ℕ × Bits) Fault) (done values : List ℤ) (v : ℤ) (gap : ℕ) (b : Bits) →
    (((λ _. r) >>= (λ others. give (gap ∷ others))) >>= (λ zero_runs. give (each_after_zeros (v ∷ values) zero_runs ++ done))) b
    ≡ ((λ _. r) >>= (λ zero_runs. give (each_after_zeros values zero_runs ++ (replicate gap (pos 0) ++ v ∷ done)))) b
after_run (Ok p) done values v gap b = grind (arith, each_more, append_assoc)
after_run (Err f) done values v gap b = refl

pub run_more : (done values others : List ℤ) (v : ℤ) (n left zeros_left gap : ℕ) (b mid : Bits) → left ≡ suc n → values ≡ v ∷ others → run n zeros_left b ≡ Ok (gap, mid) →
    placed_before done values left zeros_left b ≡ placed_before (replicate gap (pos 0) ++ v ∷ done) others n (zeros_left - gap) mid
run_more done values others v n left zeros_left gap b mid is_left is_values is = rw (is_left, is_values, is) (after_run (runs n (zeros_left - gap) mid) done others v gap mid)

pub run_fault : (done values : List ℤ) (n left zeros_left : ℕ) (f : Fault) (b : Bits) → left ≡ suc n → run n zeros_left b ≡ Err f → placed_before done values left zeros_left b ≡ Err f
run_fault done values n left zeros_left f b is_left is = rw (is_left, is) refl

pub no_run : (done values : List ℤ) (left zeros_left : ℕ) (b : Bits) → left ≡ 0 → values ≡ [] → placed_before done values left zeros_left b ≡ Ok (done, b)
no_run done values left zeros_left b is_left is_values = rw (is_left, is_values) refl

pub first_runs : (max : ℕ) (values : List ℤ) (n gap : ℕ) (b : Bits) → length values ≡ n → (n ≡ 0 → gap ≡ 0) →
    placed_by_runs max values n gap b ≡ placed_before (replicate (max - (n + gap)) (pos 0)) values n gap b
first_runs max values n gap b long none = by_runs (runs n gap b) refl
  where
    by_runs : (r : Result (List ℕ × Bits) Fault) → runs n gap b ≡ r → placed_by_runs max values n gap b ≡ placed_before (replicate (max - (n + gap)) (pos 0)) values n gap b
    by_runs (Err f) is = rw is refl
    by_runs (Ok p) is =
        let whole : length (each_after_zeros values p.0) ≡ n + gap = runs_length n values gap p.0 b p.1 long none is in
        rw is (ap (λ k. Ok (each_after_zeros values p.0 ++ replicate (max - k) (pos 0), p.1)) whole)

-- ---- the values that are left when no run is coded any more

run_none : (n : ℕ) (b : Bits) → run n 0 b ≡ Ok (0, b)
run_none zero b = refl
run_none (suc n) b = refl

pub last_first : (done values : List ℤ) (v : ℤ) → reverse values ++ (v ∷ done) ≡ reverse (v ∷ values) ++ done
last_first done values v = sym (append_assoc (reverse values) (v ∷ []) done) ∙ ap (λ l. l ++ done) (sym (reverse_onto values v []))

-- no zeros are left
side_by_side : (done values : List ℤ) (n : ℕ) (b : Bits) → length values ≡ n → placed_before done values n 0 b ≡ Ok (reverse values ++ done, b)
side_by_side done [] n b long = no_run done [] n 0 b (omega arith) refl
side_by_side done (v ∷ values) zero b long = absurd (omega arith)
side_by_side done (v ∷ values) (suc n) b long =
    run_more done (v ∷ values) values v n (suc n) 0 0 b b refl refl (run_none n b)
    ∙ side_by_side (v ∷ done) values n b (omega arith)
    ∙ ap (λ l. Ok (l, b)) (last_first done values v)

-- one value is left, which has all zeros before it
last_value : (done : List ℤ) (v : ℤ) (zeros_left : ℕ) (b : Bits) → placed_before done (v ∷ []) 1 zeros_left b ≡ Ok (replicate zeros_left (pos 0) ++ (v ∷ done), b)
last_value done v zeros_left b = simp append_assoc

pub no_runs : (done values : List ℤ) (n zeros_left : ℕ) (b : Bits) → length values ≡ n → 1 ≤ n → (2 ≤ n → zeros_left ≡ 0) →
    placed_before done values n zeros_left b ≡ Ok (replicate zeros_left (pos 0) ++ (reverse values ++ done), b)
no_runs done [] n zeros_left b long some none = absurd (omega arith)
no_runs done (v ∷ []) n zeros_left b long some none = let one : n ≡ 1 = omega arith in rw one (last_value done v zeros_left b)
no_runs done (v ∷ w ∷ values) n zeros_left b long some none = grind (arith, side_by_side)

-- ---- the array

-- the value at a place, and those after it
pub record IsAt (values : List ℤ) (total k : ℕ) (v : ℤ) : Type 0 where
  pub here : drop k (take total values) ≡ v ∷ drop (k + 1) (take total values)
  pub is : IsLevel v

pub value_at : (values : List ℤ) (total k : ℕ) → length values ≡ 16 → total ≤ 16 → k < total → All IsLevel (take total values) → IsAt values total k (get_or values k (pos 0))
value_at values total k long few within all =
    let there : k < length (take total values) = omega (arith, length-take total values) in
    let same = get_or-take total values k (pos 0) within in
    record { here = drop_more (take total values) k (pos 0) there ∙ ap (λ x. x ∷ drop (k + 1) (take total values)) same; is = subst IsLevel same (all k (pos 0) there) }

-- the places in front have no level yet
pub record IsOpen (place : ℕ) (levels : List ℤ) : Type 0 where
  pub within : place ≤ length levels
  pub front : take place levels ≡ replicate place (pos 0)

pub open_first : (place max : ℕ) → place ≤ max → IsOpen place (replicate max (pos 0))
open_first place max within = record { within = omega (arith, length-replicate max (pos 0)); front = take-replicate place max (pos 0) within }

pub open_front : (place next : ℕ) (levels : List ℤ) → IsOpen place levels → next ≤ place → take next levels ≡ replicate next (pos 0)
open_front place next levels is less = rw (← take-take next place levels less, is.front) (take-replicate next place (pos 0) less)

pub open_more : (place at gap next : ℕ) (levels : List ℤ) (v : ℤ) → IsOpen place levels → place ≡ suc at → at ≡ next + gap → IsOpen next (set levels at v)
open_more place at gap next levels v is is_place is_at = record {
  within = omega (arith, is.within, length-set {A = ℤ});
  front = rw (take-set-le next levels at v (omega arith)) (open_front place next levels is (omega arith));
}

-- the places behind have the value after its gap, and what was done
pub done_more : (place at gap next : ℕ) (levels : List ℤ) (v : ℤ) → IsOpen place levels → place ≡ suc at → at ≡ next + gap →
    drop next (set levels at v) ≡ replicate gap (pos 0) ++ v ∷ drop place levels
done_more place at gap next levels v is is_place is_at =
    let left : at - next ≡ gap = omega arith in
    let within : next ≤ length (replicate at (pos 0)) = omega (arith, length-replicate {A = ℤ}) in
    rw (set_split levels at v (omega (arith, is.within)), open_front place at levels is (omega arith), ← is_place, drop-append-le next (replicate at (pos 0)) (v ∷ drop place levels) within, drop-replicate next at (pos 0), left) refl

-- ---- how many are not 0

pub no_coefficients : (n : ℕ) → total_coeff (replicate n (pos 0)) ≡ 0
no_coefficients zero = refl
no_coefficients (suc n) = total-append (pos 0 ∷ []) (replicate n (pos 0)) ∙ omega (arith, no_coefficients n)

pub parted : (n : ℕ) (levels : List ℤ) → total_coeff levels ≡ total_coeff (take n levels) + total_coeff (drop n levels)
parted n levels = ap total_coeff (sym (take-append-drop n levels)) ∙ total-append (take n levels) (drop n levels)

-- so many zeros in front count for nothing
pub front_none : (n : ℕ) (levels : List ℤ) → take n levels ≡ replicate n (pos 0) → total_coeff levels ≡ total_coeff (drop n levels)
front_none n levels front = omega (arith, parted n levels, ap total_coeff front, no_coefficients n)

pub coefficient_more : (gap : ℕ) (v : ℤ) (done : List ℤ) → IsLevel v → total_coeff (replicate gap (pos 0) ++ v ∷ done) ≡ total_coeff done + 1
coefficient_more gap v done is = omega (arith, total-append (replicate gap (pos 0)) (v ∷ done), no_coefficients gap, counted v done is.some)

-- ---- how great they are

pub small_level : (v : ℤ) → IsLevel v → IsSmall v
small_level v is = record { low = omega (arith, ints, is.most); high = omega (arith, ints, is.most) }

pub small_zero : IsSmall (pos 0)
small_zero = record { low = omega (arith, ints); high = omega (arith, ints) }

pub small_none : (max i : ℕ) → IsSmall (get_or (replicate max (pos 0)) i (pos 0))
small_none (suc max) (suc i) = small_none max i
small_none max i = small_zero

pub small_more : (levels : List ℤ) (at : ℕ) (v : ℤ) → ((i : ℕ) → IsSmall (get_or levels i (pos 0))) → IsLevel v → at < length levels → (i : ℕ) → IsSmall (get_or (set levels at v) i (pos 0))
small_more levels at v all here within i = elim (cases_eq i at) [
  | inl same ↦ subst IsSmall (sym (ap (λ k. get_or (set levels at v) k (pos 0)) same ∙ get_or-set_same levels at v (pos 0) within)) (small_level v here)
  | inr other ↦ subst IsSmall (sym (get_or-set_other levels at i v (pos 0) other)) (all i)
]

-- no value is placed yet
pub none_placed : (total zeros : ℕ) → 1 ≤ total → total + zeros ≤ 16 → ArePlaced total 0 zeros (replicate 16 (pos 0))
none_placed total zeros some room =
    let all : total ≡ total - 0 = omega arith in
    let first = total + zeros in
    let behind : drop first (replicate 16 (pos 0)) ≡ replicate (16 - first) (pos 0) = drop-replicate first 16 (pos 0) in
    record {
      some = some;
      room = omega arith;
      open_front = rw (← all) (take-replicate first 16 (pos 0) room);
      placed_count = rw (← all) (ap total_coeff behind ∙ no_coefficients (16 - first));
      small = λ i. small_none 16 i;
    }

pub none_read : (values : List ℤ) (total zeros : ℕ) (b : Bits) → length values ≡ total → 1 ≤ total → placed_by_runs 16 values total zeros b ≡ placed_others values total 0 zeros (replicate 16 (pos 0)) b
none_read values total zeros b long some =
    let all : total ≡ total - 0 = omega arith in
    let behind : drop (total + zeros) (replicate 16 (pos 0)) ≡ replicate (16 - (total + zeros)) (pos 0) = drop-replicate (total + zeros) 16 (pos 0) in
    rw (← all, behind) (first_runs 16 values total zeros b long (λ e. absurd (omega arith)))

-- ---- some bits ahead

abbrev from : ℕ → List Bool → Bits
from position ahead = record { position = position; ahead = ahead }

pub passed_none : (b : Bits) → b ≡ passed b 0
passed_none b = ap (λ p. from p b.ahead) (omega arith)

pub passed_both : (b : Bits) (first n : ℕ) → passed (passed b first) n ≡ passed b (first + n)
passed_both b first n = ap (λ p. from p (drop n (drop first b.ahead))) (omega arith) ∙ ap (from (b.position + (first + n))) (drop-drop n first b.ahead)

-- ---- trailing ones by one look at their sign bits

first_read : (x : Bool) (p : ℕ) (rest : List Bool) → trailing_one (from p (x ∷ rest)) ≡ Ok (one_of_sign x, from (p + 1) rest)
first_read true p rest = refl
first_read false p rest = refl

all_read : (n p : ℕ) (xs rest : List Bool) → length xs ≡ n → times n trailing_one (from p (xs ++ rest)) ≡ Ok (map one_of_sign xs, from (p + n) rest)
all_read zero p [] rest long = ap (λ k. Ok ([], from k rest)) (omega arith)
all_read (suc n) p (x ∷ xs) rest long = grind (arith, one_first, first_read, all_read n (p + 1) xs rest (omega arith))
all_read _ p _ rest long = absurd (omega arith)

short_read : (n p : ℕ) (xs : List Bool) → length xs < n → times n trailing_one (from p xs) ≡ Err Truncated
short_read zero p xs short = absurd (omega arith)
short_read (suc n) p [] short = refl
short_read (suc n) p (x ∷ xs) short = grind (arith, fault_later, first_read, short_read n (p + 1) xs (omega arith))

up_to_three : (P : ℕ → Type 0) → P 0 → P 1 → P 2 → P 3 → (n : ℕ) → n ≤ 3 → P n
up_to_three P none one two three zero few = none
up_to_three P none one two three (suc zero) few = one
up_to_three P none one two three (suc (suc zero)) few = two
up_to_three P none one two three (suc (suc (suc zero))) few = three
up_to_three P none one two three (suc (suc (suc (suc n)))) few = absurd (omega arith)

some_ones : (n signs : ℕ) → n ≤ 3 → map one_of_sign (take n (bits_of 3 signs)) ≡ take n (three_ones signs)
some_ones n signs few = up_to_three (λ k. map one_of_sign (take k (bits_of 3 signs)) ≡ take k (three_ones signs)) refl refl refl refl n few

pub ones_read : (n signs : ℕ) (b after : Bits) → n ≤ 3 → bits_of 3 signs ≡ take 3 (b.ahead ++ replicate 3 false) → skip n b ≡ Ok (tt, after) →
    times n trailing_one b ≡ Ok (take n (three_ones signs), after)
ones_read n signs b after few same skipped =
    let long : n ≤ length b.ahead = skip-ok n b (tt, after) skipped in
    let there : passed b n ≡ after = (ok_parts (sym (skip_long n b long) ∙ skipped)).1 in
    let front : take n (bits_of 3 signs) ≡ take n b.ahead =
    ap (take n) same ∙ take-take n 3 (b.ahead ++ replicate 3 false) few ∙ take-append-le n b.ahead (replicate 3 false) long in
    ap (λ l. times n trailing_one (from b.position l)) (sym (take-append-drop n b.ahead))
    ∙ all_read n b.position (take n b.ahead) (drop n b.ahead) (length-take-le n b.ahead long)
    ∙ ap (λ l. Ok (map one_of_sign l, passed b n)) (sym front)
    ∙ ap (λ l. Ok (l, passed b n)) (some_ones n signs few)
    ∙ ap (λ a. Ok (take n (three_ones signs), a)) there

pub ones_fault : (n : ℕ) (b : Bits) (f : Fault) → skip n b ≡ Err f → times n trailing_one b ≡ Err f
ones_fault n b f skipped = grind (arith, skip-err, skip_short, short_read)

-- ---- the array of levels

pub ones_put : (n : ℕ) (xs : List ℤ) (x y z : ℤ) → n ≤ 3 → 3 ≤ length xs → take n (set (set (set xs 0 x) 1 y) 2 z) ≡ take n (x ∷ y ∷ z ∷ [])
ones_put n (a ∷ b ∷ c ∷ xs) x y z few long = up_to_three (λ k. take k (x ∷ y ∷ z ∷ xs) ≡ take k (x ∷ y ∷ z ∷ [])) refl refl refl refl n few
ones_put n xs x y z few long = absurd (omega arith)

one_level : (negative : Bool) → IsLevel (one_of_sign negative)
one_level true = record { some = omega (arith, ints); most = omega (arith, ints) }
one_level false = record { some = omega (arith, ints); most = omega (arith, ints) }

pub ones_levels : (n signs : ℕ) → n ≤ 3 → All IsLevel (take n (three_ones signs))
ones_levels n signs few = subst (All IsLevel) (some_ones n signs few) (All-map IsLevel one_of_sign (take n (bits_of 3 signs)) (λ k d within. one_level (get_or (take n (bits_of 3 signs)) k d)))

-- a sign as 16 bits
pub one_back : (x : ℤ) (negative : Bool) → x ≡ one_of_sign negative → to_z w16 (of_z w16 x) ≡ one_of_sign negative
one_back x true is = rw is refl
one_back x false is = rw is refl

-- ---- the ones of each three sign bits

abbrev pub table : List (List ℤ)
table =
    map three_ones (0 ∷ 1 ∷ 2 ∷ 3 ∷ 4 ∷ 5 ∷ 6 ∷ 7 ∷ [])

of_signs : (signs : ℕ) → signs < 8 → get_or table signs [] ≡ three_ones signs
of_signs signs few = get_or-map-range_with_len three_ones 0 8 signs signs [] few (omega arith)

pub one_there : (signs k : ℕ) → signs < 8 → k < 3 → get_or (get_or table signs []) k (pos 0) ≡ one_of_sign (signs / 2 ^ (2 - k) % 2 == 1)
one_there signs k three few = grind (arith, of_signs, up_to_three)

-- ---- a block of 16 levels as one of fewer

-- the first of 16 levels, of which those behind are 0
abbrev pub ReadsShorter : (max : ℕ) → (values : List ℤ) → (n zeros : ℕ) → (b after : Bits) → (block : List ℤ) → Type 0
ReadsShorter max values n zeros b after block =
    (placed_by_runs max values n zeros b ≡ Ok (take max block, after)) × (drop max block ≡ replicate (16 - max) (pos 0))

front : (found : List ℤ) (max more : ℕ) → length found + more ≡ max → max ≤ 16 → take max (found ++ replicate (16 - length found) (pos 0)) ≡ found ++ replicate (max - length found) (pos 0)
front found max more is few = grind (arith, take-append-add, take-replicate)

behind : (found : List ℤ) (max more : ℕ) → length found + more ≡ max → max ≤ 16 → drop max (found ++ replicate (16 - length found) (pos 0)) ≡ replicate (16 - max) (pos 0)
behind found max more is few = grind (arith, drop-append-add, drop-replicate)

pub shorter : (max : ℕ) (values : List ℤ) (n zeros : ℕ) (b after : Bits) (block : List ℤ) → length values ≡ n → (n ≡ 0 → zeros ≡ 0) → n + zeros ≤ max → max ≤ 16 →
    placed_by_runs 16 values n zeros b ≡ Ok (block, after) → ReadsShorter max values n zeros b after block
shorter max values n zeros b after block long none room few is_block = by (before (runs n zeros b) (λ zero_runs. give (placed 16 values zero_runs)) b block after is_block)
  where
    by : Before (runs n zeros b) (λ zero_runs. give (placed 16 values zero_runs)) block after → ReadsShorter max values n zeros b after block
    by one =
        let found = each_after_zeros values one.value in
        let size : length found ≡ n + zeros = runs_length n values zeros one.value b one.left long none one.first in
        let both = ok_parts one.second in
        let gap : length found + (max - length found) ≡ max = omega arith in (
          rw (one.first, ← both.0, ← both.1, front found max (max - length found) gap few) refl,
          rw (← both.0) (behind found max (max - length found) gap few),
        )

pub shorter_count : (max : ℕ) (block : List ℤ) (k : ℕ) → drop max block ≡ replicate k (pos 0) → total_coeff (take max block) ≡ total_coeff block
shorter_count max block k rest = omega (arith, parted max block, ap total_coeff rest, no_coefficients k)
