-- The levels of a block, and the block from its parts.
pub mod TrailingOnes
unfoldable pub use TrailingOnes.*
use Rattle.avc_types.specs.declared.fault.Fault.TheVariants as faults

-- ---- how great a levelCode can be

two : 0 < 2
two = lit< tt

-- with prefix 15
longest : (sl suffix : ℕ) (above_one : Bool) → sl ≤ 6 → suffix < 4096 → (IsTrue above_one → sl ≤ 1) → level_code 15 sl suffix above_one ≤ 5055
longest zero suffix above_one few small first = grind arith
longest (suc sl) suffix true few small first =
    let power : 2 ^ suc sl ≤ 2 ^ 1 = pow-le-pow_right two (first (search rules)) in
    grind (arith, nat_tests, power)
longest (suc sl) suffix false few small first = grind (arith, pow-le-pow_right, two)

short : (a b : Bool) (sl : ℕ) → b ≡ false → sl ≤ 6 → (if a then 4 else if b then 12 else sl) ≤ 6
short a b sl e few = grind arith

at_most : (b : Bool) (n : ℕ) → (if b then n else 0) ≤ n
at_most b n = grind arith

small_code : (prefix sl suffix : ℕ) (above_one : Bool) → prefix < 15 → sl ≤ 6 → suffix < 2 ^ suffix_size prefix sl → level_code prefix sl suffix above_one ≤ 5055
small_code prefix sl suffix above_one less few small =
    let other : prefix ≢ 15 = omega arith in
    let size : suffix_size prefix sl ≤ 6 = short (prefix == 14 && sl == 0) (prefix == 15) sl (ne_eqb prefix 15 other) few in
    let power : 2 ^ suffix_size prefix sl ≤ 2 ^ 6 = pow-le-pow_right two size in
    let scale : 2 ^ sl ≤ 2 ^ 6 = pow-le-pow_right two few in
    let least : prefix ≤ 15 = omega arith in
    let product : prefix * 2 ^ sl ≤ 15 * 2 ^ 6 = mul-le-mul least scale in
    omega (arith, at_most (prefix == 15 && sl == 0) 15, at_most above_one 2)

pub level_code_most : (prefix sl suffix : ℕ) (above_one : Bool) → prefix ≤ 15 → sl ≤ 6 → suffix < 2 ^ suffix_size prefix sl → (IsTrue above_one → sl ≤ 1) → level_code prefix sl suffix above_one ≤ 5055
level_code_most prefix sl suffix above_one most few small first = elim (cases_lt prefix 15) [
  | inl less ↦ small_code prefix sl suffix above_one less few small
  | inr last ↦
      let same : prefix ≡ 15 = omega arith in
      rw same (longest sl suffix above_one few (let P : ℕ → Type 0 = λ p. suffix < 2 ^ suffix_size p sl in subst P same small) first)
]

-- ---- one level more

-- the others after one
pub after_level : (r : Result (List ℤ × Bits) Fault) (done : List ℤ) (l : ℤ) (b : Bits) →
    (((λ _. r) >>= (λ others. give (l ∷ others))) >>= (λ others. give (done ++ others))) b ≡ ((λ _. r) >>= (λ others. give ((done ++ l ∷ []) ++ others))) b
after_level (Ok p) done l b = ap (λ t. Ok (t, p.1)) (sym (append_assoc done (l ∷ []) p.0))
after_level (Err f) done l b = refl

pub level_fault : (done : List ℤ) (total k sl : ℕ) (above_one : Bool) (f : Fault) (b : Bits) → k < total → level sl above_one b ≡ Err f → levels_after done (total - k) sl above_one b ≡ Err f
level_fault done total k sl above_one f b some is = let left : total - k ≡ suc (total - (k + 1)) = omega arith in rw (left, is) refl

-- ---- the array of levels

-- one element more, put behind those that are done
pub all_more : {A : Type 0} (P : A → Type 0) (xs : List A) (k : ℕ) (x : A) → k < length xs → All P (take k xs) → P x → All P (take (k + 1) (set xs k x))
all_more P xs k x within all here = rw (take_more_set xs k x within) (All-push P (take k xs) x all here)

-- ---- a level with a short prefix

pub short_suffix : (prefix sl : ℕ) → prefix ≤ 13 → suffix_size prefix sl ≡ sl
short_suffix prefix sl few = grind (arith, nat_tests)

-- ---- how many bits a level has

-- so many bits were passed
record IsPassed (b after : Bits) (n : ℕ) : Type 0 where
  same : after ≡ passed b n
  within : n ≤ length b.ahead

prefix_passed : (limit : ℕ) (fault : Fault) (b after : Bits) (n : ℕ) → zeros_before_one limit fault b ≡ Ok (n, after) → IsPassed b after (n + 1)
prefix_passed limit fault b after n is = elim (cases_lt limit (leading b.ahead)) [
  | inl many ↦ let over = before_many limit fault b many in cc
  | inr few ↦ elim (cases_lt (leading b.ahead) (length b.ahead)) [
    | inl some ↦
        let both = ok_parts (sym (before_found limit fault b few some) ∙ is) in
        record { same = sym both.1 ∙ ap (λ k. passed b (k + 1)) both.0; within = omega (arith, both.0) }
    | inr none ↦ let cut = before_short limit fault b few none in cc
  ]
]

two_passed : (b mid after : Bits) (m n : ℕ) → IsPassed b mid m → IsPassed mid after n → IsPassed b after (m + n)
two_passed b mid after m n first second =
    let ahead : mid.ahead ≡ drop m b.ahead = ap (λ x. x.ahead) first.same in
    let position : mid.position ≡ b.position + m = ap (λ x. x.position) first.same in
    let sum : mid.position + n ≡ b.position + (m + n) = omega (arith, position) in
    let left : drop n mid.ahead ≡ drop (m + n) b.ahead = ap (drop n) ahead ∙ drop-drop n m b.ahead in
    let whole : passed mid n ≡ passed b (m + n) = rw (sum, left) refl in
    record {
      same = second.same ∙ whole;
      within = omega (arith, first.within, second.within, ap length ahead, length-drop m b.ahead);
    }

suffix_passed : (b after : Bits) (n value : ℕ) → u n b ≡ Ok (value, after) → IsPassed b after n
suffix_passed b after n value is = elim (cases_lt (length b.ahead) n) [
  | inl short ↦ let cut = u_short n b short in cc
  | inr long ↦ record { same = sym (ok_parts (sym (u_long n b long) ∙ is)).1; within = long }
]

-- The level is read from as many bits as its prefix, the 1 and its suffix have.
pub record IsLong (sl : ℕ) (above_one : Bool) (prefix suffix : ℕ) (b : Bits) : Type 0 where
  pub read : level sl above_one b ≡ Ok (level_of_code (level_code prefix sl suffix above_one), passed b (prefix + 1 + suffix_size prefix sl))
  pub within : prefix + 1 + suffix_size prefix sl ≤ length b.ahead

pub level_long : (sl : ℕ) (above_one : Bool) (prefix suffix : ℕ) (b mid after : Bits) → zeros_before_one 15 BadCode b ≡ Ok (prefix, mid) → u (suffix_size prefix sl) mid ≡ Ok (suffix, after) →
    IsLong sl above_one prefix suffix b
level_long sl above_one prefix suffix b mid after is_prefix is_suffix =
    let all = two_passed b mid after (prefix + 1) (suffix_size prefix sl) (prefix_passed 15 BadCode b mid prefix is_prefix) (suffix_passed mid after (suffix_size prefix sl) suffix is_suffix) in
    let whole : level sl above_one b ≡ Ok (level_of_code (level_code prefix sl suffix above_one), after) = rw (is_prefix, is_suffix) refl in
    record { read = whole ∙ ap (λ left. Ok (level_of_code (level_code prefix sl suffix above_one), left)) all.same; within = all.within }

-- what is left after so many bits
pub skipped_is : (n : ℕ) (b after : Bits) → n ≤ length b.ahead → skip n b ≡ Ok (tt, after) → passed b n ≡ after
skipped_is n b after within is = (ok_parts (sym (skip_long n b within) ∙ is)).1

pub never_cut : {P : Type 0} (n : ℕ) (b : Bits) (f : Fault) → n ≤ length b.ahead → skip n b ≡ Err f → P
never_cut n b f within is = let whole = skip_long n b within in cc

-- ---- a block from its parts

-- total_zeros of a block with so many levels
abbrev zeros_where : (none : Bool) → (max total : ℕ) → Read ℕ
zeros_where none max total = elim none [ true ↦ give 0 | false ↦ total_zeros total (max == 4) ]

abbrev zeros_part : (max total : ℕ) → Read ℕ
zeros_part max total = zeros_where (total == 0 || total == max) max total

-- whether so many zeros have places
abbrev kept : (max total : ℕ) → ℕ → Read ℕ
kept max total zeros = check (nat_le (total + zeros) max) faults.TooManyCoefficients >> give zeros

-- total_zeros, and then the runs
pub by_zeros : (max : ℕ) (values : List ℤ) (total found : ℕ) (b after : Bits) → zeros_within max total b ≡ Ok (found, after) → placed_by_zeros max values total b ≡ placed_by_runs 16 values total found after
by_zeros max values total found b after is = ap (λ r. ((λ _. r) >>= λ z. placed_by_runs 16 values total z) b) is

-- a block goes on behind its coeff_token
pub behind_token : (max : ℕ) (nc : ℤ) (t : Token) (b after : Bits) → coeff_token nc b ≡ Ok (t, after) → residual_block max nc b ≡ block_behind max t after
behind_token max nc t b after is = ap (λ r. ((λ _. r) >>= block_behind max) b) is

pub token_fault : (max : ℕ) (nc : ℤ) (f : Fault) (b : Bits) → coeff_token nc b ≡ Err f → residual_block max nc b ≡ Err f
token_fault max nc f b is = ap (λ r. ((λ _. r) >>= block_behind max) b) is

pub reads_behind : {V : Type 0} (result : Result V Fault) (levels : List ℤ) (max : ℕ) (nc : ℤ) (t : Token) (after : Bits) (old new : BitReader) → coeff_token nc (reader_bits old) ≡ Ok (t, after) →
    ReadsFrom result levels (block_behind max t) after (reader_bits new) → IfOk result (λ _. reader_bytes new ≡ reader_bytes old) → ReadsInto result levels (residual_block max nc) old new
reads_behind (Ok v) levels max nc t after old new is read bytes = (behind_token max nc t (reader_bits old) after is ∙ read, bytes)
reads_behind (Err f) levels max nc t after old new is read bytes = behind_token max nc t (reader_bits old) after is ∙ read

-- a block without a level
pub none_behind : (max : ℕ) (t : Token) (b : Bits) → t.ones ≤ t.total → t.total ≡ 0 → block_behind max t b ≡ Ok (replicate max (pos 0), b)
none_behind max t b few none =
    let no_ones : t.ones ≡ 0 = omega arith in
    let all : max - 0 ≡ max = omega arith in
    rw (none, no_ones, le-leb 0 max (omega arith)) (rw (le-leb 0 max (omega arith), all) refl)

pub no_levels : (max : ℕ) (nc : ℤ) (t : Token) (b after : Bits) → t.ones ≤ t.total → t.total ≡ 0 → coeff_token nc b ≡ Ok (t, after) → residual_block max nc b ≡ Ok (replicate max (pos 0), after)
no_levels max nc t b after few none is = behind_token max nc t b after is ∙ none_behind max t after few none

whole : (max : ℕ) (t : Token) (zeros : ℕ) (values block : List ℤ) (first second third after : Bits) → t.total + zeros ≤ max →
    token_levels t first ≡ Ok (values, second) → zeros_part max t.total second ≡ Ok (zeros, third) →
    placed_by_runs max values t.total zeros third ≡ Ok (block, after) → block_behind max t first ≡ Ok (block, after)
whole max t zeros values block first second third after room is_levels is_zeros is_placed = grind (arith, le-leb)

tested : (test : Bool) (f : Fault) (x y : ℕ) (b after : Bits) → ((check test f >> give x) b) ≡ Ok (y, after) → (test ≡ true) × (x ≡ y) × (b ≡ after)
tested true f x y b after is = let both = ok_parts is in (refl, both.0, both.1)
tested false f x y b after is = cc

pub some_levels : (max : ℕ) (t : Token) (values block : List ℤ) (first second after : Bits) → max ≤ 16 → t.total ≢ 0 → length values ≡ t.total → token_levels t first ≡ Ok (values, second) →
    placed_by_zeros max values t.total second ≡ Ok (block, after) → (block_behind max t first ≡ Ok (take max block, after)) × (drop max block ≡ replicate (16 - max) (pos 0))
some_levels max t values block first second after few some long is_levels is_placed =
    let one = before (zeros_within max t.total second) (λ z. placed_by_runs 16 values t.total z) second block after is_placed in
    let two = before (zeros_part max t.total second) (kept max t.total) second one.value one.left one.first in
    let test = tested (nat_le (t.total + two.value) max) faults.TooManyCoefficients two.value one.value two.left one.left two.second in
    let zeros : zeros_part max t.total second ≡ Ok (one.value, one.left) = two.first ∙ ap (λ z. Ok (z, two.left)) test.1 ∙ ap (λ l. Ok (one.value, l)) test.2 in
    let within : t.total + one.value ≤ max = omega (arith, leb-true (t.total + two.value) max test.0, test.1) in
    let short = shorter max values t.total one.value one.left after block long (λ e. absurd (some e)) within few one.second in
    (whole max t one.value values (take max block) first second one.left after within is_levels zeros short.0, short.1)

-- a fault behind the levels
fault_by : (r : Result (ℕ × Bits) Fault) (max total : ℕ) (values : List ℤ) (b : Bits) (f : Fault) →
    (((λ _. r) >>= kept max total) >>= (λ z. placed_by_runs 16 values total z)) b ≡ Err f →
    ((λ _. r) >>= (λ z. check (nat_le (total + z) max) faults.TooManyCoefficients >> placed_by_runs max values total z)) b ≡ Err f
fault_by (Err g) max total values b f is = is
fault_by (Ok p) max total values b f is = by_test (nat_le (total + p.0) max) is
  where
    by_runs : (r : Result (List ℕ × Bits) Fault) → ((λ _. r) >>= (λ zero_runs. give (placed 16 values zero_runs))) p.1 ≡ Err f → ((λ _. r) >>= (λ zero_runs. give (placed max values zero_runs))) p.1 ≡ Err f
    by_runs (Ok q) is = cc
    by_runs (Err g) is = is

    by_test : (t : Bool) → ((check t faults.TooManyCoefficients >> give p.0) >>= (λ z. placed_by_runs 16 values total z)) p.1 ≡ Err f →
        (check t faults.TooManyCoefficients >> placed_by_runs max values total p.0) p.1 ≡ Err f
    by_test true is = by_runs (runs total p.0 p.1) is
    by_test false is = is

pub levels_fault : (max : ℕ) (t : Token) (values : List ℤ) (first second : Bits) (f : Fault) → t.total ≤ max → token_levels t first ≡ Ok (values, second) →
    placed_by_zeros max values t.total second ≡ Err f → block_behind max t first ≡ Err f
levels_fault max t values first second f room is_levels is_fault =
    rw (le-leb t.total max room, is_levels) (fault_by (zeros_part max t.total second) max t.total values second f is_fault)

-- ---- worked examples of residual blocks

-- the value and the position after it
abbrev value_of : {A : Type 0} → Read A → List ℕ → Result (A × ℕ) Fault
value_of part bytes = elim (part (start bytes)) [ Ok r ↦ Ok (r.0, r.1.position) | Err f ↦ Err f ]

block : value_of (residual_block 16 (pos 0)) (0x08 ∷ 0xE5 ∷ 0xED ∷ 0x80 ∷ []) ≡ Ok (pos 0 ∷ pos 3 ∷ pos 0 ∷ pos 1 ∷ negsuc 0 ∷ negsuc 0 ∷ pos 0 ∷ pos 1 ∷ pos 0 ∷ pos 0 ∷ pos 0 ∷ pos 0 ∷ pos 0 ∷ pos 0 ∷ pos 0 ∷ pos 0 ∷ [], 24)
block = refl

too_many : value_of (residual_block 15 (pos 8)) (0xF2 ∷ []) ≡ Err faults.TooManyCoefficients
too_many = refl

prefix_of_16 : value_of (residual_block 16 (pos 0)) (0x14 ∷ 0x00 ∷ 0x03 ∷ []) ≡ Err faults.BadCode
prefix_of_16 = refl
