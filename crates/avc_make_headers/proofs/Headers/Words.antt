-- Parts of the syntax that are put, and read again from their words.
pub mod Common
unfoldable pub use Common.*

-- ---- lists

-- the place k of a list
pub at_place : {A : Type 0} (xs : List A) (k : ℕ) (d x : A) → k < length xs → x ≡ get_or xs k d → drop k xs ≡ x ∷ drop (k + 1) xs
at_place xs k d x within is = rw is (drop_more xs k d within)

-- ---- bits put one after another

-- both, where the second is long
-- one word was put, and then another
pub puts_then : (a b d : Made) (v w : List Bool) → (a.failed ≡ false) × (b ≡ with_bits a v) → (b.failed ≡ false) × (d ≡ with_bits b w) → (a.failed ≡ false) × (d ≡ with_bits a (v ++ w))
puts_then a b d v w first second = (
  first.0,
  second.1 ∙ ap (λ m. with_bits m w) first.1 ∙ ap (λ l. record { bits = l; failed = false }) (append_assoc a.bits v w),
)

pub pair : {P Q : Type 0} → P → Q → P × Q
pair p q = (p, q)

-- a value of se(v) is a number of 32 bits
pub same_i32 : (v : ℤ) → IsSeValue v → to_z w32 (of_z w32 v) ≡ v
same_i32 v is = omega (arith, ints, is.0, is.1)

-- one that is small
pub small_se : (v : ℤ) → negsuc 25 ≤ℤ v → v ≤ℤ pos 25 → IsSeValue v
small_se v low high = (omega (arith, ints, low), omega (arith, ints, high))

pub chroma_se : (v : ℤ) → negsuc 11 ≤ℤ v → v ≤ℤ pos 12 → IsSeValue v
chroma_se v low high = (omega (arith, ints, low), omega (arith, ints, high))

-- all was put
pub put_all : (old new : Made) (all : List Bool) → new.failed ≡ false → new.bits ++ [] ≡ old.bits ++ all → new ≡ with_bits old all
put_all old new all going same = ap (λ b. record { bits = new.bits; failed = b }) going ∙ ap (λ t. record { bits = t; failed = false }) (sym (append-nil new.bits) ∙ same)

-- ---- the bits of a unit, read again

-- the bits before the stop bit
pub unit_start : (header : ℕ) (bits : List Bool) (unit : List ℕ) → IsUnit header bits unit → start (rbsp (drop 1 unit)) ≡ record { position = 0; ahead = bits }
unit_start header bits unit is =
    let raw : rbsp (drop 1 unit) ≡ is.raw = ap (λ u. rbsp (drop 1 u)) is.body ∙ removed 0 is.raw (omega arith) in
    ap start raw ∙ ap (λ b. record { position = 0; ahead = b }) (rbsp_is_read bits is.raw (is.padding, is.filled))

-- ---- parts of the syntax read from their words

-- the type of what a part gives
abbrev pub of_part : {A : Type 0} → Read A → Type 0
of_part {A} part = A

-- That of the word of each value in P.
pub record GivesEach {A : Type 0} (part : Read A) (word : A → List Bool) (P : A → Type 0) : Type 0 where
  pub each : (x : A) → P x → GivesBack part (word x) x

pub gives_each : {A : Type 0} {part : Read A} {word : A → List Bool} {P : A → Type 0} → ((x : A) → P x → GivesBack part (word x) x) → GivesEach part word P
gives_each each = record { each = each }

-- ---- parts of any kind

pub at-of : {A : Type 0} {position : ℕ} {rest w : List Bool} {part : Read A} {x : A} → GivesBack part w x → ReadsAt position rest w part x
at-of g = g.back _ _

pub back-check : {test : Bool} (f : Fault) → test ≡ true → GivesBack (check test f) [] tt
back-check f passes = rw passes back-give

-- a value that a test lets pass
back-tested : {A : Type 0} {w : List Bool} {part : Read A} {x : A} (test : A → Bool) (f : Fault) → GivesBack part w x → test x ≡ true → GivesBack (part >>= λ v. check (test v) f >> give v) w x
back-tested test f first passes = back-then _ first (back-then _ (back-check f passes) back-give)

-- at the end there is no more data
pub at-no_more : {position : ℕ} → ReadsAt position [] [] more false
at-no_more {position} = record { read = ap (λ k. Ok (false, record { position = k; ahead = [] })) (omega arith) }

-- a part for each element
pub back-times : {A : Type 0} {part : Read A} {word : A → List Bool} {P : A → Type 0} (n : ℕ) {xs : List A} → length xs ≡ n → GivesEach part word P → Each P xs → GivesBack (times n part) (flat_map word xs) xs
back-times n {xs = []} count gives all = rw (← count) back-give
back-times n {xs = x ∷ xs} count gives all = rw (← count) (back-bind _ (gives.each x all.0) (back-last _ (back-times (length xs) refl gives all.1)))

pub back-where : {A : Type 0} {part : Read A} {word : A → List Bool} {P : A → Type 0} (set : Bool) {o : Option A} → is_some o ≡ set → GivesEach part word P → IfSome o P → GivesBack (where_set set part) (where_bits word o) o
back-where set {o = None} same gives is = rw (← same) back-give
back-where set {o = Some x} same gives is = rw (← same) (back-last _ (gives.each x is))

-- ---- codewords

pub back-optional : {A : Type 0} {part : Read A} {word : A → List Bool} {P : A → Type 0} {o : Option A} → GivesEach part word P → IfSome o P → GivesBack (optional part) (optional_bits word o) o
back-optional {o = None} gives is = back-then _ back-flag back-give
back-optional {o = Some x} gives is = back-bind _ back-flag (back-last _ (gives.each x is))

-- a value up to one that has a codeword
pub back-ue_to : (top : ℕ) {v : ℕ} → nat_lt top 4294967295 ≡ true → v ≤ top → GivesBack (ue_to top) (ue_word v) v
back-ue_to top {v} small most =
    let few : top < 4294967295 = ltb-true top 4294967295 small in
    back-tested (λ k. nat_le k top) faults.OutOfRange (back-ue (omega arith)) (le-leb v top most)

pub back-u_to : (n top : ℕ) {v : ℕ} → v ≤ top → v < 2 ^ n → GivesBack (u_to n top) (bits_of n v) v
back-u_to n top {v} most small = back-tested (λ k. nat_le k top) faults.OutOfRange (back-u n small) (le-leb v top most)

-- a value between two that have codewords
pub back-se_within : (low high : ℤ) {v : ℤ} → (int_lt (neg_ℤ (pos 2147483648)) low && int_lt high (pos 2147483648)) ≡ true → low ≤ℤ v → v ≤ℤ high → GivesBack (se_within low high) (se_word v) v
back-se_within low high {v} small least most =
    let passes : (int_le low v && int_le v high) ≡ true = grind (arith, ints) in
    back-tested (λ k. int_le low k && int_le k high) faults.OutOfRange (back-se (grind (arith, ints)) (grind (arith, ints))) passes
