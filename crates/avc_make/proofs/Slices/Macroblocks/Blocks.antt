-- Residual blocks: their codes, what is put of them, and what reading says of them.
pub mod Common
unfoldable pub use Common.*
use Rattle.avc_cavlc.specs.Block.{placed}
use Rattle.avc_make.specs.BlockWriting.{IsWritable}

-- ---- bits put and read

pub zeros_put : (position count : ℕ) → count ≡ (8 - position % 8) % 8 → bits_of count 0 ≡ zeros_to_byte position
zeros_put position count is = rw (is, bits_of-zero) refl

-- any parts can be put that can be put whatever they are
pub any_each : {A : Type 0} (xs : List A) → Each (λ _. Unit {0}) xs
any_each [] = tt
any_each (x ∷ xs) = (tt, any_each xs)

-- the bit that is read, and none where none can be read
pub bit_read : (b b' : Bits) (bit : Bool) → flag b ≡ Ok (bit, b') → b.ahead ≡ bit ∷ b'.ahead
bit_read b b' bit read = grind arith

-- ---- what is coded of a block, put step by step: lists

pub sum-cons : (x : ℕ) (xs : List ℕ) → sum (x ∷ xs) ≡ x + sum xs
sum-cons x xs = sum_by-cons (λ n. n) x xs

pub is_some_given : {A : Type 0} (given : Option A) (word : A → List Bool) (o : Option (List Bool)) → option_map word given ≡ o → is_some o ≡ true → is_some given ≡ true
is_some_given given word o is some = grind arith

-- ---- what is coded: trailing ones

-- of three, those of the place k and after it
abbrev pub ones_from : List (ℤ × ℕ) → ℕ → ℕ
ones_from found k = ones_first (3 - k) (drop k (values_of found))

pub ones_at : (found : List (ℤ × ℕ)) (k : ℕ) (l : ℤ) → k < 3 → k < length found → l ≡ get_or (values_of found) k (pos 0) →
    ones_from found k ≡ (if nat_abs l == 1 then suc (ones_from found (k + 1)) else 0)
ones_at found k l small within is =
    let left : 3 - k ≡ suc (3 - (k + 1)) = omega arith in
    rw (left, at_place (values_of found) k (pos 0) l (omega (arith, length-map found (λ p. p.0))) is) refl

pub ones_end : (left : ℕ) (values : List ℤ) → values ≡ [] → ones_first left values ≡ 0
ones_end left values is = grind arith

pub ones_few : (most : ℕ) (values : List ℤ) → ones_first most values ≤ most
ones_few zero values = omega arith
ones_few (suc most) [] = omega arith
ones_few (suc most) (l ∷ values) = grind (arith, ones_few most values)

pub ones_within : (most : ℕ) (values : List ℤ) → ones_first most values ≤ length values
ones_within zero values = omega arith
ones_within (suc most) [] = omega arith
ones_within (suc most) (l ∷ values) = grind (arith, ones_within most values)

-- ---- putting

-- the sign of the trailing one k
pub sign_at : (n k : ℕ) (values : List ℤ) (l : ℤ) → k < n → n ≤ length values → l ≡ get_or values k (pos 0) → drop k (sign_bits n values) ≡ int_lt l (pos 0) ∷ drop (k + 1) (sign_bits n values)
sign_at n k values l small within is =
    let some : k < length (take n values) = omega (arith, length-take-le n values within) in
    at_place (sign_bits n values) k false (int_lt l (pos 0)) (omega (arith, length-map (take n values) (λ l. int_lt l (pos 0))))
    (ap (λ v. int_lt v (pos 0)) (is ∙ sym (get_or-take n values k (pos 0) small)) ∙ sym (get_or-map (λ l. int_lt l (pos 0)) (take n values) k (pos 0) false some))

-- ---- how much is coded

-- so many levels with so many zeros
abbrev size_of : List (ℤ × ℕ) → ℕ
size_of found = length found + sum (runs_of found)

found_size : (before : ℕ) (levels : List ℤ) → size_of (after_zeros before levels) ≤ length levels + before
found_size before [] = omega arith
found_size before (l ∷ levels) = grind (arith, nat_tests, found_size (before + 1) levels, found_size 0 levels, sum-cons)

pub coded_size : (levels : List ℤ) → length (coded levels) + sum (runs_of (coded levels)) ≤ length levels
coded_size levels = grind (arith, common_steps, nat_tests, ints, IsPermutation-map, IsPermutation-reverse, found_size, length-reverse, sum_by-IsPermutation)

found_all : (P : ℤ → Type 0) (before : ℕ) (levels : List ℤ) → All (λ l. nat_abs l ≢ 0 → P l) levels → All (λ (c : ℤ × ℕ). P c.0) (after_zeros before levels)
found_all P before [] all = All-nil (λ (c : ℤ × ℕ). P c.0)
found_all P before (l ∷ levels) all =
    let others = All-tail (λ v. nat_abs v ≢ 0 → P v) l levels all in
    elim (cases_eq (nat_abs l) 0) [
      | inl none ↦ rw (eq-eqb (nat_abs l) 0 none) (found_all P (before + 1) levels others)
      | inr some ↦
          let here = All-head (λ v. nat_abs v ≢ 0 → P v) l levels all some in
          rw (ne_eqb (nat_abs l) 0 some) (All-cons (λ (c : ℤ × ℕ). P c.0) (l, before) (after_zeros 0 levels) here (found_all P 0 levels others))
    ]

-- what holds of each level that is not 0
pub coded_all : (P : ℤ → Type 0) (levels : List ℤ) → All (λ l. nat_abs l ≢ 0 → P l) levels → All P (values_of (coded levels))
coded_all P levels all =
    let found = after_zeros 0 levels in
    All-map P (λ (c : ℤ × ℕ). c.0) (reverse found) (All-permutation (λ (c : ℤ × ℕ). P c.0) found (reverse found) (IsPermutation-reverse found) (found_all P 0 levels all))

abbrev pub IsNonzero : ℤ → Type 0
IsNonzero l = 1 ≤ nat_abs l

pub coded_some : (levels : List ℤ) → All IsNonzero (values_of (coded levels))
coded_some levels = coded_all IsNonzero levels (λ k d within some. omega arith)

-- where a block is neither empty nor full, total_zeros has a codeword
pub zeros_there : (most total zeros : ℕ) → 1 ≤ total → total ≢ most → most ≤ 16 → total + zeros ≤ most → is_some (zeros_word total (most == 4) zeros) ≡ true
zeros_there most total zeros some other few within = elim (cases_eq most 4) [
  | inl four ↦ rw (eq-eqb most 4 four) (chroma_zeros_whole total zeros some (omega arith) (omega arith))
  | inr more ↦ rw (ne_eqb most 4 more) (zeros_whole total zeros some (omega arith) (omega arith))
]

-- ---- the codewords of levels: a prefix

pub least_last : (sl : ℕ) → sl ≢ 0 → least_code sl 15 ≡ 15 * 2 ^ sl
least_last sl some = grind (arith, nat_tests)

-- the levelCodes of a prefix end where those of the next begin
next_least : (sl prefix : ℕ) → prefix < 15 → least_code sl (suc prefix) ≡ least_code sl prefix + 2 ^ suffix_size prefix sl
next_least sl prefix few = grind (arith, nat_tests)

rises : (sl prefix later : ℕ) → prefix < later → later ≤ 15 → least_code sl prefix + 2 ^ suffix_size prefix sl ≤ least_code sl later
rises sl prefix zero below few = absurd (omega arith)
rises sl prefix (suc later) below few = elim (cases_eq prefix later) [
  | inl same ↦ subst (λ k. least_code sl prefix + 2 ^ suffix_size prefix sl ≤ least_code sl (suc k)) same (omega (arith, next_least sl prefix (omega arith)))
  | inr other ↦ omega (arith, rises sl prefix later (omega arith) (omega arith), next_least sl later (omega arith))
]

-- the prefix and suffix of a levelCode
pub record IsPrefix (sl code prefix : ℕ) : Type 0 where
  pub few : prefix ≤ 15
  pub least : least_code sl prefix ≤ code
  pub fits : code < least_code sl prefix + 2 ^ suffix_size prefix sl

prefix_zero : (code : ℕ) → IsCode 0 code → IsPrefix 0 code (prefix_of 0 code)
prefix_zero code is = grind (arith, nat_tests)

prefix_some : (sl code power : ℕ) → sl ≢ 0 → 2 ^ sl ≡ power → 0 < power → IsCode sl code → IsPrefix sl code (prefix_of sl code)
prefix_some sl code power some same positive is = grind (arith, nat_tests, div-lt_iff_lt-mul, mod-add-div, mod-lt)

pub prefix_is : (sl code : ℕ) → IsCode sl code → IsPrefix sl code (prefix_of sl code)
prefix_is sl code is = search (rules, cases_eq, prefix_zero, prefix_some, pow_pos)

-- what has a prefix has a codeword, and no other prefix
pub prefix_code : (sl code prefix : ℕ) → IsPrefix sl code prefix → IsCode sl code
prefix_code sl code prefix is = grind (arith, common_steps, nat_tests, ints, rises)

pub only_prefix : (sl code prefix : ℕ) → IsPrefix sl code prefix → prefix_of sl code ≡ prefix
only_prefix sl code prefix is =
    let own = prefix_is sl code (prefix_code sl code prefix is) in
    elim (cases_order (prefix_of sl code) prefix) [
      | inl same ↦ same
      | inr (inl below) ↦ absurd (omega (arith, own.fits, is.least, rises sl (prefix_of sl code) prefix below is.few))
      | inr (inr above) ↦ absurd (omega (arith, is.fits, own.least, rises sl prefix (prefix_of sl code) above own.few))
    ]

-- what is put for a levelCode
pub level_word : (sl code prefix least size : ℕ) → prefix ≡ prefix_of sl code → least ≡ level_code prefix sl 0 false → size ≡ suffix_size prefix sl → bits_of prefix 0 ++ true ∷ bits_of size (code - least) ≡ level_bits sl code
level_word sl code prefix least size is_prefix is_least is_size = rw (is_size, is_least, is_prefix, bits_of-zero) refl

-- the next level
pub levels_at : (found : List (ℤ × ℕ)) (sl : ℕ) (above_one : Bool) (k : ℕ) (l : ℤ) → k < length found → l ≡ get_or (values_of found) k (pos 0)
    → AreCodes sl above_one (drop k (values_of found)) → AreCodes sl above_one (l ∷ drop (k + 1) (values_of found))
    × (levels_bits sl above_one (drop k (values_of found)) ≡ levels_bits sl above_one (l ∷ drop (k + 1) (values_of found)))
levels_at found sl above_one k l within is codes =
    let here = at_place (values_of found) k (pos 0) l (omega (arith, length-map found (λ p. p.0))) is in
    (rw here at codes, ap (levels_bits sl above_one) here)

-- ---- how great a level is

least_most : (sl n : ℕ) → sl ≤ n → 1 ≤ n → least_code sl 15 ≤ 15 * 2 ^ n
least_most zero n few some = let two : 0 < 2 = lit< tt in omega (arith, pow-le-pow_right two some)
least_most (suc sl) n few some = let two : 0 < 2 = lit< tt in omega (arith, least_last (suc sl) (λ e. omega arith), pow-le-pow_right two few)

pub level_most : (sl : ℕ) (above_one : Bool) (l : ℤ) → sl ≤ 6 → (IsTrue above_one → sl ≤ 1) → IsCode sl (code_of_level above_one l) → nat_abs l ≤ 2528
level_most sl above_one l few first is = grind (arith, least_most sl 6 few, least_most sl 1, is)

-- ---- blocks of small levels can be written

abbrev IsSmall : ℤ → Type 0
IsSmall l = nat_abs l ≤ 2063

least_over : (sl : ℕ) → 30 ≤ least_code sl 15
least_over zero = omega arith
least_over (suc sl) = omega (arith, least_last (suc sl) (λ e. omega arith), pow-succ' 2 sl, pow_pos sl)

small_code : (sl : ℕ) (above_one : Bool) (l : ℤ) → IsSmall l → IsCode sl (code_of_level above_one l)
small_code sl above_one l small = grind (arith, least_over sl)

small_codes : (sl : ℕ) (above_one : Bool) (values : List ℤ) → All IsSmall values → AreCodes sl above_one values
small_codes sl above_one [] all = tt
small_codes sl above_one (l ∷ values) all =
    (small_code sl above_one l (All-head IsSmall l values all), small_codes (next_suffix_length sl l) false values (All-tail IsSmall l values all))

pub small_writable : SmallAreWritable
small_writable levels all = search (rules, coded_all, All-weaker, small_codes, All-drop)

-- ---- residual blocks read from their bits

-- a codeword of a table
word_back : {A : Type 0} {value : A} (part : Read A) (o : Option (List Bool)) → is_some o ≡ true → ((word : List Bool) → o ≡ Some word → IsReadBack part word value) → GivesBack part (or_none o) value
word_back part (Some word) some back = record { back = λ position rest. record { read = back word refl position rest } }
word_back part None some back = cc

-- ---- levels

back-one : (l : ℤ) → nat_abs l ≡ 1 → GivesBack trailing_one (int_lt l (pos 0) ∷ []) l
back-one (pos (suc zero)) one = back-last (λ negative. if negative then neg_ℤ (pos 1) else pos 1) (back-flag {b = false})
back-one (negsuc zero) one = back-last (λ negative. if negative then neg_ℤ (pos 1) else pos 1) (back-flag {b = true})
back-one l one = absurd (omega arith)

-- the trailing ones
back-ones : (most : ℕ) (values : List ℤ) → GivesBack (times (ones_first most values) trailing_one) (sign_bits (ones_first most values) values) (take (ones_first most values) values)
back-ones zero values = back-give
back-ones (suc most) [] = back-give
back-ones (suc most) (l ∷ values) = search (rules, cases_eq, eq-eqb, back-bind, back-one, back-last, ne_eqb, back-give, back-ones most values)

level_back : (above_one : Bool) (l : ℤ) → IsNonzero l → (above_one ≡ true → 2 ≤ nat_abs l) → level_of_code (code_of_level above_one l + (if above_one then 2 else 0)) ≡ l
level_back above_one l some above = grind (arith, nat_tests)

back-level : (sl : ℕ) (above_one : Bool) (l : ℤ) → IsCode sl (code_of_level above_one l) → IsNonzero l → (above_one ≡ true → 2 ≤ nat_abs l) → GivesBack (level sl above_one) (level_bits sl (code_of_level above_one l)) l
back-level sl above_one l is some above =
    let code = code_of_level above_one l in
    let prefix = prefix_of sl code in
    let p = prefix_is sl code is in
    let same : level_code prefix sl (code - least_code sl prefix) above_one ≡ code + (if above_one then 2 else 0) = omega (arith, p.least) in
    let value : level_of_code (level_code prefix sl (code - least_code sl prefix) above_one) ≡ l = ap level_of_code same ∙ level_back above_one l some above in
    let all = back-bind (λ k. u (suffix_size k sl) >>= λ s. give (level_of_code (level_code k sl s above_one))) (back-zeros faults.BadCode p.few) (back-last _ (back-u (suffix_size prefix sl) (omega (arith, p.least, p.fits)))) in
    with_value value (with_word (append_assoc (replicate prefix false) (true ∷ []) (bits_of (suffix_size prefix sl) (code - least_code sl prefix))) all)

-- the first level is known to be above 1 in size
abbrev pub IsAboveOne : Bool → List ℤ → Type 0
IsAboveOne above_one [] = Unit {0}
IsAboveOne above_one (l ∷ values) = above_one ≡ true → 2 ≤ nat_abs l

not_above : (values : List ℤ) → IsAboveOne false values
not_above values = grind arith

back-levels : (sl : ℕ) (above_one : Bool) (values : List ℤ) → AreCodes sl above_one values → All IsNonzero values → IsAboveOne above_one values →
    GivesBack (levels (length values) sl above_one) (levels_bits sl above_one values) values
back-levels sl above_one [] codes some above = back-give
back-levels sl above_one (l ∷ values) codes some above =
    back-bind _ (back-level sl above_one l codes.0 (All-head IsNonzero l values some) above)
    (back-last _ (back-levels (next_suffix_length sl l) false values codes.1 (All-tail IsNonzero l values some) (not_above values)))

-- what stands after the trailing ones
stops_above : (most : ℕ) (values : List ℤ) → All IsNonzero values → ones_first most values < most → IsAboveOne true (drop (ones_first most values) values)
stops_above zero values some few = absurd (omega arith)
stops_above (suc most) [] some few = tt
stops_above (suc most) (l ∷ values) some few = elim (cases_eq (nat_abs l) 1) [
  | inl one ↦ let is = eq-eqb (nat_abs l) 1 one in rw is (stops_above most values (All-tail IsNonzero l values some) (omega (arith, rw is at few)))
  | inr other ↦ rw (ne_eqb (nat_abs l) 1 other) (λ _. omega (arith, All-head IsNonzero l values some))
]

ones_above : (values : List ℤ) → All IsNonzero values → IsAboveOne (nat_lt (ones_first 3 values) 3) (drop (ones_first 3 values) values)
ones_above values some = elim (cases_lt (ones_first 3 values) 3) [
  | inl few ↦ rw (lt-ltb (ones_first 3 values) 3 few) (stops_above 3 values some few)
  | inr most ↦ rw (le-ltb (ones_first 3 values) 3 most) (not_above (drop (ones_first 3 values) values))
]

back-values : (found : List (ℤ × ℕ)) → HasCodes found → All IsNonzero (values_of found) →
    GivesBack (token_levels (token (length found) (ones_first 3 (values_of found))))
    (sign_bits (ones_first 3 (values_of found)) (values_of found)
    ++ levels_bits (first_length (length found) (ones_first 3 (values_of found))) (nat_lt (ones_first 3 (values_of found)) 3) (drop (ones_first 3 (values_of found)) (values_of found)))
    (values_of found)
back-values found codes some =
    let values = values_of found in
    let ones = ones_first 3 values in
    let sl = first_length (length found) ones in
    let above_one = nat_lt ones 3 in
    let others = drop ones values in
    let count : length others ≡ length found - ones = length-drop ones values ∙ ap (λ n. n - ones) (length-map found (λ c. c.0)) in
    let read = back-levels sl above_one others codes (All-drop IsNonzero ones values some) (ones_above values some) in
    let counted = subst (λ n. GivesBack (levels n sl above_one) (levels_bits sl above_one others) others) count read in
    with_value (take-append-drop ones values) (back-bind _ (back-ones 3 values) (back-last (λ vs. take ones values ++ vs) counted))

-- ---- runs

back-run : (others zeros_left n : ℕ) → others + 1 + zeros_left ≤ 16 → n ≤ zeros_left → (others ≡ 0 → zeros_left ≡ n) → GivesBack (run others zeros_left) (run_bits others zeros_left n) n
back-run zero zeros_left n few within last = rw (← last refl) back-give
back-run (suc others) zero n few within last = let none : n ≡ 0 = omega arith in rw none back-give
back-run (suc others) (suc zeros_left) n few within last = word_back (run_before (suc zeros_left)) (run_word (suc zeros_left) n) (run_whole (suc zeros_left) n (omega arith) (omega arith) within) (λ w is. run_back (suc zeros_left) n w is)

last_run : (n : ℕ) (zero_runs : List ℕ) → length zero_runs ≡ 0 → sum (n ∷ zero_runs) ≡ n
last_run n [] none = sum-cons n [] ∙ omega arith
last_run n (r ∷ zero_runs) none = absurd (omega arith)

back-runs : (zero_runs : List ℕ) (zeros_left : ℕ) → sum zero_runs ≡ zeros_left → length zero_runs + zeros_left ≤ 16 → GivesBack (runs (length zero_runs) zeros_left) (runs_bits zeros_left zero_runs) zero_runs
back-runs [] zeros_left is few = back-give
back-runs (n ∷ zero_runs) zeros_left is few =
    let both = sum-cons n zero_runs in
    back-bind _ (back-run (length zero_runs) zeros_left n (omega arith) (omega (arith, both)) (λ none. sym is ∙ last_run n zero_runs none))
    (back-last _ (back-runs zero_runs (zeros_left - n) (omega (arith, both)) (omega arith)))

-- ---- places

pairs_back : (found : List (ℤ × ℕ)) → zip (values_of found) (runs_of found) ≡ found
pairs_back [] = refl
pairs_back (c ∷ found) = ap (λ f. c ∷ f) (pairs_back found)

abbrev pub after : ℤ × ℕ → List ℤ
after p = replicate p.1 (pos 0) ++ p.0 ∷ []

abbrev all_after : List (ℤ × ℕ) → List ℤ
all_after found = flat_map after found

is_zero : (l : ℤ) → nat_abs l ≡ 0 → l ≡ pos 0
is_zero l e = grind (arith, ints)

replicate_more : (n : ℕ) (levels : List ℤ) → replicate (n + 1) (pos 0) ++ levels ≡ replicate n (pos 0) ++ pos 0 ∷ levels
replicate_more n levels = rw (← replicate-append-replicate n 1 (pos 0), append_assoc) refl

-- the zeros at the end fill up the levels
abbrev Fills : ℕ → List ℤ → Type 0
Fills before levels = all_after (after_zeros before levels) ++ replicate (before + length levels - length (all_after (after_zeros before levels))) (pos 0) ≡ replicate before (pos 0) ++ levels

fills : (before : ℕ) (levels : List ℤ) → Fills before levels
fills before [] = let all : before + 0 - 0 ≡ before = omega arith in ap (λ n. replicate n (pos 0)) all ∙ sym (append-nil (replicate before (pos 0)))
fills before (l ∷ levels) =
    search (rules, cases_eq, replicate_more, length-append, length-replicate, ne_eqb, append_assoc, fills (before + 1) levels, fills 0 levels)

placed_back : (most : ℕ) (levels : List ℤ) → length levels ≡ most → placed most (values_of (coded levels)) (runs_of (coded levels)) ≡ levels
placed_back most levels is =
    let found = after_zeros 0 levels in
    let order : reverse (zip (values_of (coded levels)) (runs_of (coded levels))) ≡ found = ap reverse (pairs_back (coded levels)) ∙ reverse-reverse found in
    let total : most ≡ 0 + length levels = omega (arith, is) in
    ap (λ f. all_after f ++ replicate (most - length (all_after f)) (pos 0)) order
    ∙ ap (λ n. all_after found ++ replicate (n - length (all_after found)) (pos 0)) total
    ∙ fills 0 levels

-- ---- blocks

-- total_zeros, or none where the block is empty or full
abbrev ZerosBack : (most total zeros : ℕ) → Bool → Type 0
ZerosBack most total zeros none = GivesBack (elim none [ true ↦ give 0 | false ↦ total_zeros total (most == 4) ]) (if none then [] else or_none (zeros_word total (most == 4) zeros)) zeros

back-zeros_coded : (most total zeros : ℕ) → most ≤ 16 → total + zeros ≤ most → (total ≡ 0 → zeros ≡ 0) → ZerosBack most total zeros (total == 0 || total == most)
back-zeros_coded most total zeros few within none = by_test (total == 0 || total == most) refl
  where
    by_test : (test : Bool) → (total == 0 || total == most) ≡ test → ZerosBack most total zeros test
    by_test true is = let no_zeros : zeros ≡ 0 = grind (arith, nat_tests, none) in rw no_zeros back-give
    by_test false is =
        let some : total ≢ 0 = λ e. grind (arith, nat_tests) in
        let room : total ≢ most = λ e. grind (arith, nat_tests) in
        word_back (total_zeros total (most == 4)) (zeros_word total (most == 4) zeros) (zeros_there most total zeros (omega arith) room few within) (λ w is. zeros_back total (most == 4) zeros w is)

no_runs : (found : List (ℤ × ℕ)) → length found ≡ 0 → sum (runs_of found) ≡ 0
no_runs [] none = refl
no_runs (c ∷ found) none = absurd (omega arith)

pub back-block : (most : ℕ) (nc : ℤ) (levels : List ℤ) → most ≤ 16 → (nc <ℤ pos 0 → most ≤ 4) → length levels ≡ most → IsWritable levels → GivesBack (residual_block most nc) (block_bits most nc levels) levels
back-block most nc levels few chroma is codes =
    let found = coded levels in
    let values = values_of found in
    let total = length found in
    let ones = ones_first 3 values in
    let zeros = sum (runs_of found) in
    let t = token total ones in
    let signs = sign_bits ones values in
    let others = levels_bits (first_length total ones) (nat_lt ones 3) (drop ones values) in
    let size : total + zeros ≤ most = omega (arith, coded_size levels) in
    let least : total ≤ most = omega arith in
    let is_token : IsToken t = record { total = omega arith; ones = omega (arith, ones_within 3 values, length-map found (λ c. c.0)); few_ones = ones_few 3 values } in
    let long : length (runs_of found) ≡ total = length-map found (λ c. c.1) in
    let runs_read = subst (λ n. GivesBack (runs n zeros) (runs_bits zeros (runs_of found)) (runs_of found)) long (back-runs (runs_of found) zeros refl (omega (arith, long))) in
    let whole = token_whole nc t is_token (λ below. let four : most ≤ 4 = chroma below in omega arith) in
    let all : GivesBack (residual_block most nc) (or_none (token_word nc t) ++ ((signs ++ others) ++ (zeros_bits most total zeros ++ runs_bits zeros (runs_of found)))) (placed most values (runs_of found)) =
    back-bind _ (word_back (coeff_token nc) (token_word nc t) whole (λ w is. token_back nc t w is)) (back-bind _ (back-check _ (le-leb total most least)) (back-bind _ (back-values found codes (coded_some levels))
    (back-bind _ (back-zeros_coded most total zeros few size (no_runs found)) (back-bind _ (back-check _ (le-leb (total + zeros) most size)) (back-last (λ rs. placed most values rs) runs_read))))) in
    let word = ap (λ w. or_none (token_word nc t) ++ w) (append_assoc signs others (zeros_bits most total zeros ++ runs_bits zeros (runs_of found))) in
    with_value (placed_back most levels is) (with_word word all)

pub block_back : BlocksAreRead
block_back most nc levels rest few chroma is codes = reads_back (back-block most nc levels few chroma is codes) rest

-- ---- what reading says of a residual block: it can be written, and its bits are those that were read: what a part reads

-- what was read of x is a word of it
record TookWord {A : Type 0} (Of : A → List Bool → Type 0) (b left : Bits) (x : A) : Type 0 where
  pub word : List Bool
  pub is : Of x word
  pub ahead : b.ahead ≡ word ++ left.ahead

record Took {A : Type 0} (part : Read A) (Of : A → List Bool → Type 0) : Type 0 where
  pub took : (b left : Bits) (x : A) → part b ≡ Ok (x, left) → TookWord Of b left x

given : {A : Type 0} (x y : A) (b left : Bits) → give x b ≡ Ok (y, left) → (x ≡ y) × (b ≡ left)
given x y b left is = grind arith

took-give : {A : Type 0} {Of : A → List Bool → Type 0} (x : A) → Of x [] → Took (give x) Of
took-give {A} {Of} x of = record {
  took = λ b left y is. let same = given x y b left is in record { word = []; is = subst (λ z. Of z []) same.0 of; ahead = ap (λ c. c.ahead) same.1 };
}

-- one part after another
took-bind : {A B : Type 0} {Of : A → List Bool → Type 0} {Whole : B → List Bool → Type 0} {part : Read A} (next : A → Read B) →
    Took part Of → ((x : A) (w : List Bool) → Of x w → Took (next x) (λ y w'. Whole y (w ++ w'))) → Took (part >>= next) Whole
took-bind {part = part} next first others = record {
  took = λ b left y is.
      let parts = before (part b) next b y left is in
      let one = first.took b parts.left parts.value parts.first in
      let rest = (others parts.value one.word one.is).took parts.left left y parts.second in
      record { word = one.word ++ rest.word; is = rest.is; ahead = one.ahead ∙ ap (λ t. one.word ++ t) rest.ahead ∙ sym (append_assoc one.word rest.word left.ahead) };
}

-- a part of whose value another is made
took-last : {A B : Type 0} {Of : A → List Bool → Type 0} {Whole : B → List Bool → Type 0} {part : Read A} (f : A → B) →
    Took part Of → ((x : A) (w : List Bool) → Of x w → Whole (f x) w) → Took (part >>= λ x. give (f x)) Whole
took-last {Whole = Whole} f first of_all = took-bind _ first (λ x w of. took-give (f x) (subst (Whole (f x)) (sym (append-nil w)) (of_all x w of)))

took-check : {B : Type 0} {Whole : B → List Bool → Type 0} {next : Read B} (test : Bool) (f : Fault) → (test ≡ true → Took next Whole) → Took (check test f >> next) Whole
took-check true f others = record { took = λ b left y is. (others refl).took b left y is }
took-check false f others = record { took = λ b left y is. cc }

-- a code, as the set of its codewords
took-code : {A : Type 0} {part : Read A} (code : List Bool → A → Type 0) (f : Fault) → ((b : Bits) → IsReadBy code f b (part b)) → Took part (λ x w. code w x)
took-code code f read = record {
  took = λ b left x is. let taken : Takes code b x left = rw is at (read b) in record { word = taken.word; is = taken.is_word; ahead = taken.ahead };
}

-- a code, as the word of each value
took-own : {A : Type 0} {part : Read A} (word : A → Option (List Bool)) → ((x : A) (b left : Bits) → part b ≡ Ok (x, left) → IsRead (word x) b left) → Took part (λ x w. w ≡ or_none (word x))
took-own word own = record {
  took = λ b left x is. let read = own x b left is in record { word = read.bits; is = sym (ap or_none read.is_word); ahead = read.ahead };
}

took-u : (n : ℕ) → Took (u n) (λ v w. (v < 2 ^ n) × (w ≡ bits_of n v))
took-u n = took-code (IsU n) faults.BadCode (u_reads n faults.BadCode)

took-flag : Took flag (λ v w. w ≡ v ∷ [])
took-flag = record { took = λ b left v is. record { word = v ∷ []; is = refl; ahead = bit_read b left v is } }

pair_is : {A B : Type 0} (x y : A) (a b : B) → ◌≡◌ {A = Result (A × B) Fault} (Ok (x, a)) (Ok (y, b)) → (x ≡ y) × (a ≡ b)
pair_is x y a b is = grind arith

-- zeros and a 1
split_at_one : (bits : List Bool) → leading bits < length bits → bits ≡ (replicate (leading bits) false ++ true ∷ []) ++ drop (leading bits + 1) bits
unfolding leading
split_at_one [] some = absurd (omega arith)
split_at_one (true ∷ bits) some = refl
split_at_one (false ∷ bits) some = search (rules, split_at_one bits (omega arith))

prefix_took : (limit n : ℕ) (f : Fault) (b left : Bits) → zeros_before_one limit f b ≡ Ok (n, left) → (n ≤ limit) × (b.ahead ≡ (replicate n false ++ true ∷ []) ++ left.ahead)
prefix_took limit n f b left is = search (rules, cases_lt, before_many, pair_is, before_found, split_at_one, before_short)

took-prefix : (limit : ℕ) (f : Fault) → Took (zeros_before_one limit f) (λ n w. (n ≤ limit) × (w ≡ replicate n false ++ true ∷ []))
took-prefix limit f = record {
  took = λ b left n is. let took = prefix_took limit n f b left is in record { word = replicate n false ++ true ∷ []; is = (took.0, refl); ahead = took.1 };
}

-- ---- levels

abbrev IsOne : ℤ → Type 0
IsOne l = nat_abs l ≡ 1

sign_took : (negative : Bool) (l : ℤ) → (if negative then neg_ℤ (pos 1) else pos 1) ≡ l → IsOne l × (negative ≡ int_lt l (pos 0))
sign_took negative l is = grind arith

took-one : Took trailing_one (λ l w. IsOne l × (w ≡ int_lt l (pos 0) ∷ []))
took-one = took-last (λ negative. if negative then neg_ℤ (pos 1) else pos 1) took-flag (λ negative w is. let sign = sign_took negative _ refl in (sign.0, is ∙ ap (λ s. s ∷ []) sign.1))

abbrev signs : List ℤ → List Bool
signs values = map (λ l. int_lt l (pos 0)) values

record AreOnes (n : ℕ) (values : List ℤ) (word : List Bool) : Type 0 where
  count : length values ≡ n
  ones : All IsOne values
  is_word : word ≡ signs values

took-ones : (n : ℕ) → Took (times n trailing_one) (AreOnes n)
took-ones zero = took-give [] (record { count = refl; ones = All-nil IsOne; is_word = refl })
took-ones (suc n) = took-bind _ took-one (λ l w one. took-last _ (took-ones n) (λ ls w' others.
    record { count = ap (λ k. suc k) others.count; ones = All-cons IsOne l ls one.0 others.ones; is_word = ap (λ t. t ++ w') one.1 ∙ ap (λ t. int_lt l (pos 0) ∷ t) others.is_word }))

-- what a levelCode stands for
record IsValue (above_one : Bool) (code : ℕ) (l : ℤ) : Type 0 where
  pub back : code_of_level above_one l ≡ code
  pub some : IsNonzero l
  pub above : above_one ≡ true → 2 ≤ nat_abs l

value_is : (above_one : Bool) (code all : ℕ) → all ≡ code + (if above_one then 2 else 0) → IsValue above_one code (level_of_code all)
value_is above_one code all is = grind (arith, nat_tests, ints)

record IsLevelWord (sl : ℕ) (above_one : Bool) (l : ℤ) (word : List Bool) : Type 0 where
  code : IsCode sl (code_of_level above_one l)
  some : IsNonzero l
  above : above_one ≡ true → 2 ≤ nat_abs l
  is_word : word ≡ level_bits sl (code_of_level above_one l)

level_took : (sl prefix suffix : ℕ) (above_one : Bool) (w w' : List Bool) → (prefix ≤ 15) × (w ≡ replicate prefix false ++ true ∷ []) → (suffix < 2 ^ suffix_size prefix sl) × (w' ≡ bits_of (suffix_size prefix sl) suffix) →
    IsLevelWord sl above_one (level_of_code (level_code prefix sl suffix above_one)) (w ++ w')
level_took sl prefix suffix above_one w w' first second =
    let code = least_code sl prefix + suffix in
    let size = suffix_size prefix sl in
    let is : IsPrefix sl code prefix = record { few = first.0; least = omega arith; fits = omega (arith, second.0) } in
    let value = value_is above_one code (level_code prefix sl suffix above_one) (omega arith) in
    let is_prefix = only_prefix sl code prefix is in
    let rest : code - least_code sl prefix ≡ suffix = omega arith in
    let word : level_bits sl code ≡ replicate prefix false ++ true ∷ bits_of size suffix = rw (is_prefix, rest) refl in
    record {
      code = rw (value.back) (prefix_code sl code prefix is);
      some = value.some;
      above = value.above;
      is_word = rw (value.back) (ap (λ t. t ++ w') first.1 ∙ ap (λ t. (replicate prefix false ++ true ∷ []) ++ t) second.1 ∙ append_assoc (replicate prefix false) (true ∷ []) (bits_of size suffix) ∙ sym word);
    }

took-level : (sl : ℕ) (above_one : Bool) → Took (level sl above_one) (IsLevelWord sl above_one)
took-level sl above_one = took-bind _ (took-prefix 15 faults.BadCode) (λ prefix w first. took-last _ (took-u (suffix_size prefix sl)) (λ suffix w' second. level_took sl prefix suffix above_one w w' first second))

record AreLevels (n sl : ℕ) (above_one : Bool) (values : List ℤ) (word : List Bool) : Type 0 where
  count : length values ≡ n
  codes : AreCodes sl above_one values
  some : All IsNonzero values
  above : IsAboveOne above_one values
  is_word : word ≡ levels_bits sl above_one values

took-levels : (n sl : ℕ) (above_one : Bool) → Took (levels n sl above_one) (AreLevels n sl above_one)
took-levels zero sl above_one = took-give [] (record { count = refl; codes = tt; some = All-nil IsNonzero; above = tt; is_word = refl })
took-levels (suc n) sl above_one = took-bind _ (took-level sl above_one) (λ l w one. took-last _ (took-levels n (next_suffix_length sl l) false) (λ ls w' others.
    record {
      count = ap (λ k. suc k) others.count;
      codes = (one.code, others.codes);
      some = All-cons IsNonzero l ls one.some others.some;
      above = one.above;
      is_word = ap (λ t. t ++ w') one.is_word ∙ ap (λ t. level_bits sl (code_of_level above_one l) ++ t) others.is_word;
    }))

-- ---- all levels

-- the trailing ones are those at the front
ones_count : (most : ℕ) (ones others : List ℤ) → All IsOne ones → length ones ≤ most → (length ones < most → IsAboveOne true others) → ones_first most (ones ++ others) ≡ length ones
ones_count zero [] others each few above = refl
ones_count zero (l ∷ ones) others each few above = absurd (omega arith)
ones_count (suc most) [] [] each few above = refl
ones_count (suc most) [] (l ∷ others) each few above = search (rules, ne_eqb)
ones_count (suc most) (l ∷ ones) others each few above =
    search (rules, eq-eqb, All-head, All-tail, ones_count most ones others (All-tail IsOne l ones each) (omega arith) (λ less. above (omega arith)))

record AreValues (total ones : ℕ) (values : List ℤ) (word : List Bool) : Type 0 where
  count : length values ≡ total
  trailing : ones_first 3 values ≡ ones
  codes : AreCodes (first_length total ones) (nat_lt ones 3) (drop ones values)
  some : All IsNonzero values
  is_word : word ≡ sign_bits ones values ++ levels_bits (first_length total ones) (nat_lt ones 3) (drop ones values)

above_few : (ones : ℕ) (others : List ℤ) → IsAboveOne (nat_lt ones 3) others → ones < 3 → IsAboveOne true others
above_few ones others above few = subst (λ t. IsAboveOne t others) (lt-ltb ones 3 few) above

values_took : (total ones : ℕ) (xs vs : List ℤ) (w w' : List Bool) → ones ≤ total → ones ≤ 3 → AreOnes ones xs w → AreLevels (total - ones) (first_length total ones) (nat_lt ones 3) vs w' → AreValues total ones (xs ++ vs) (w ++ w')
values_took total ones xs vs w w' within few o v =
    let rest : drop ones (xs ++ vs) ≡ vs = ap (λ k. drop k (xs ++ vs)) (sym o.count) ∙ drop-append_seam xs vs in
    let front : take ones (xs ++ vs) ≡ xs = ap (λ k. take k (xs ++ vs)) (sym o.count) ∙ take-append_seam xs vs in
    record {
      count = length-append xs vs ∙ omega (arith, o.count, v.count);
      trailing = ones_count 3 xs vs o.ones (omega (arith, o.count)) (λ less. above_few ones vs v.above (omega (arith, o.count))) ∙ o.count;
      codes = rw rest (v.codes);
      some = All-append IsNonzero xs vs (All-weaker IsOne IsNonzero (λ l one. omega arith) xs o.ones) v.some;
      is_word = rw (rest, front) (ap (λ t. t ++ w') o.is_word ∙ ap (λ t. signs xs ++ t) v.is_word);
    }

took-values : (total ones : ℕ) → ones ≤ total → ones ≤ 3 → Took (token_levels (token total ones)) (AreValues total ones)
took-values total ones within few =
    took-bind _ (took-ones ones) (λ xs w o. took-last (λ vs. xs ++ vs) (took-levels (total - ones) (first_length total ones) (nat_lt ones 3)) (λ vs w' v. values_took total ones xs vs w w' within few o v))

-- ---- runs

run_took : (others zeros_left n : ℕ) (b left : Bits) → run others zeros_left b ≡ Ok (n, left) → b.ahead ≡ run_bits others zeros_left n ++ left.ahead
run_took zero zeros_left n b left is = ap (λ c. c.ahead) (given zeros_left n b left is).1
run_took (suc others) zero n b left is = ap (λ c. c.ahead) (given 0 n b left is).1
run_took (suc others) (suc zeros_left) n b left is =
    let read = run_own (suc zeros_left) n b left is in
    read.ahead ∙ ap (λ o. or_none o ++ left.ahead) (sym read.is_word)

took-run : (others zeros_left : ℕ) → Took (run others zeros_left) (λ n w. (n ≤ zeros_left) × (others ≡ 0 → zeros_left ≡ n) × (w ≡ run_bits others zeros_left n))
took-run others zeros_left = record {
  took = λ b left n is. record { word = run_bits others zeros_left n; is = (run_most others zeros_left n b left is, run_last others zeros_left n b left is, refl); ahead = run_took others zeros_left n b left is };
}

record AreRuns (n zeros_left : ℕ) (zero_runs : List ℕ) (word : List Bool) : Type 0 where
  count : length zero_runs ≡ n
  total : (n ≡ 0 → zeros_left ≡ 0) → sum zero_runs ≡ zeros_left
  is_word : word ≡ runs_bits zeros_left zero_runs

took-runs : (n zeros_left : ℕ) → Took (runs n zeros_left) (AreRuns n zeros_left)
took-runs zero zeros_left = took-give [] (record { count = refl; total = λ none. sym (none refl); is_word = refl })
took-runs (suc n) zeros_left = took-bind _ (took-run n zeros_left) (λ z w one. took-last _ (took-runs n (zeros_left - z)) (λ zs w' others.
    let none : n ≡ 0 → zeros_left - z ≡ 0 = λ e. let all : zeros_left ≡ z = one.1 e in omega arith in
    record {
      count = ap (λ k. suc k) others.count;
      total = λ _. omega (arith, sum-cons z zs, others.total none, one.0);
      is_word = ap (λ t. t ++ w') one.2 ∙ ap (λ t. run_bits n zeros_left z ++ t) others.is_word ∙ ap (λ k. run_bits k zeros_left z ++ runs_bits (zeros_left - z) zs) (sym others.count);
    }))

-- ---- places

zeros_on : (n count : ℕ) (levels : List ℤ) → after_zeros count (replicate n (pos 0) ++ levels) ≡ after_zeros (count + n) levels
zeros_on zero count levels = ap (λ k. after_zeros k levels) (omega arith)
zeros_on (suc n) count levels = zeros_on n (count + 1) levels ∙ ap (λ k. after_zeros k levels) (omega arith)

abbrev HasLevel : ℤ × ℕ → Type 0
HasLevel p = IsNonzero p.0

found_back : (found : List (ℤ × ℕ)) (n : ℕ) → All HasLevel found → after_zeros 0 (flat_map after found ++ replicate n (pos 0)) ≡ found
found_back [] n all = rw (← (append-nil (replicate n (pos 0)))) (zeros_on n 0 [])
found_back (p ∷ found) n all = search (rules, ne_eqb, All-head, append_assoc, zeros_on, All-tail, found_back found n (All-tail HasLevel p found all))

all_zip : (values : List ℤ) (zero_runs : List ℕ) → All IsNonzero values → All HasLevel (zip values zero_runs)
all_zip (l ∷ values) (z ∷ zero_runs) all =
    All-cons HasLevel (l, z) (zip values zero_runs) (All-head IsNonzero l values all) (all_zip values zero_runs (All-tail IsNonzero l values all))
all_zip _ _ all = All-nil HasLevel

coded_placed : (most : ℕ) (values : List ℤ) (zero_runs : List ℕ) → All IsNonzero values → coded (placed most values zero_runs) ≡ zip values zero_runs
coded_placed most values zero_runs all =
    let pairs = zip values zero_runs in
    let each = All-permutation HasLevel pairs (reverse pairs) (IsPermutation-reverse pairs) (all_zip values zero_runs all) in
    ap reverse (found_back (reverse pairs) (most - length (each_after_zeros values zero_runs)) each) ∙ reverse-reverse pairs

-- ---- blocks

took-zeros : (most total : ℕ) (none : Bool) → Took (elim none [ true ↦ give 0 | false ↦ total_zeros total (most == 4) ]) (λ n w. (w ≡ (if none then [] else or_none (zeros_word total (most == 4) n))) × (none ≡ true → n ≡ 0))
took-zeros most total true = took-give 0 (refl, λ _. refl)
took-zeros most total false = record {
  took = λ b left n is. let read = (took-own (zeros_word total (most == 4)) (zeros_own total (most == 4))).took b left n is in record { word = read.word; is = (read.is, λ e. cc); ahead = read.ahead };
}

token_range : (nc : ℤ) (t : Token) (b left : Bits) → coeff_token nc b ≡ Ok (t, left) → IsToken t
token_range nc t b left is =
    let read = (took-code (IsIn (token_table nc)) faults.BadCode (table_read (token_table nc))).took b left t is in
    token_tested t (all_in is_token (token_table nc) read.word t (tokens_tested nc) read.is)

took-token : (nc : ℤ) → Took (coeff_token nc) (λ t w. IsToken t × (w ≡ or_none (token_word nc t)))
took-token nc = record {
  took = λ b left t is. let read = (took-own (token_word nc) (token_own nc)).took b left t is in record { word = read.word; is = (token_range nc t b left is, read.is); ahead = read.ahead };
}

record IsBlockWord (most : ℕ) (nc : ℤ) (levels : List ℤ) (word : List Bool) : Type 0 where
  writable : IsWritable levels
  is_word : word ≡ block_bits most nc levels

abbrev bits_by : (most : ℕ) → (nc : ℤ) → (total ones n : ℕ) → List ℤ → List ℕ → List Bool
bits_by most nc total ones n values zero_runs =
    joined (or_none (token_word nc (token total ones)) ∷ sign_bits ones values ∷ levels_bits (first_length total ones) (nat_lt ones 3) (drop ones values)
    ∷ zeros_bits most total n ∷ runs_bits n zero_runs ∷ [])

-- what is written of the block's own coefficients
block_took : (most total ones n : ℕ) (nc : ℤ) (values : List ℤ) (zero_runs : List ℕ) (wt wv wz wr : List Bool) → wt ≡ or_none (token_word nc (token total ones)) → AreValues total ones values wv
    → wz ≡ zeros_bits most total n → (total ≡ 0 → n ≡ 0) → AreRuns total n zero_runs wr → IsBlockWord most nc (placed most values zero_runs) (wt ++ (wv ++ (wz ++ wr)))
block_took most total ones n nc values zero_runs wt wv wz wr is_token v is_zeros none r =
    let same : length zero_runs ≡ length values = omega (arith, v.count, r.count) in
    let found : coded (placed most values zero_runs) ≡ zip values zero_runs = coded_placed most values zero_runs v.some in
    let is_values = firsts-zip values zero_runs same in
    let is_runs = seconds-zip values zero_runs same in
    let is_total : length (zip values zero_runs) ≡ total = sym (length-map (zip values zero_runs) (λ c. c.0)) ∙ ap length is_values ∙ v.count in
    let is_ones = v.trailing in
    let is_sum = r.total none in
    let written : block_bits most nc (placed most values zero_runs) ≡ bits_by most nc total ones n values zero_runs = simp (found, is_values, is_runs, is_total, is_ones, is_sum) in
    record {
      writable = simp (found, is_values, is_total, is_ones) (v.codes);
      is_word = rw (is_token, v.is_word, is_zeros, r.is_word, append_assoc) (sym written);
    }

took-block : (most : ℕ) (nc : ℤ) → Took (residual_block most nc) (IsBlockWord most nc)
took-block most nc = took-bind _ (took-token nc) (λ t wt is_token. took-check (nat_le t.total most) faults.TooManyCoefficients (λ test. took-bind _ (took-values t.total t.ones is_token.0.ones is_token.0.few_ones)
    (λ values wv v. took-bind _ (took-zeros most t.total (t.total == 0 || t.total == most)) (λ n wz z. took-check (nat_le (t.total + n) most) faults.TooManyCoefficients (λ room. took-last (λ zero_runs. placed most values zero_runs) (took-runs t.total n)
    (λ zero_runs wr r. block_took most t.total t.ones n nc values zero_runs wt wv wz wr is_token.1 v z.0 (λ e. z.1 (ap (λ b. b || t.total == most) (eq-eqb t.total 0 e))) r))))))

pub block_forth : BlocksAreWritable
block_forth most nc b left levels is =
    let read = (took-block most nc).took b left levels is in
    record { writable = read.is.writable; ahead = read.ahead ∙ ap (λ w. w ++ left.ahead) read.is.is_word }
