-- What is written: codewords, bits that fill bytes, escapes, and an RBSP.
pub mod Common
unfoldable pub use Common.*

-- ---- the codewords

-- where the first 1 of a number stands
pub record IsTop (n value : ℕ) : Type 0 where
  pub few : n ≤ 31
  pub low : 2 ^ n ≤ value
  pub high : value < 2 ^ n + 2 ^ n

top_from : (value front m : ℕ) → front + m ≡ 32 → 0 < value → value < 2 ^ m → 2 ^ m ≤ 2 * value + 1 → IsTop (31 - front) value
top_from value front zero sum some above below = absurd (omega arith)
top_from value front (suc m) sum some above below = grind (arith, common_steps, nat_tests, ints, pow-succ')

pub top_of : (value : ℕ) → 0 < value → value < 4294967296 → IsTop (bits_after_one value) value
top_of value some small =
    let l = leading_length 32 value small in
    top_from value (count_leading_zeros 32 value) l.0 l.1 some l.2 l.3

-- the bits after the first 1
pub low_bits : (n value : ℕ) → IsTop n value → bits_of n value ≡ bits_of n (value - 2 ^ n)
low_bits n value is =
    let m = value - 2 ^ n in
    let small : m < 2 ^ n = omega (arith, is.low, is.high) in
    let whole : value ≡ 1 * 2 ^ n + m = omega (arith, is.low) in
    number-inj (bits_of n value) (bits_of n m) (length-bits_of n value ∙ sym (length-bits_of n m))
    (number-bits_of n value ∙ ap (λ v. v % 2 ^ n) whole ∙ mod-mul-add 1 (2 ^ n) m small ∙ sym (mod-eq_of_lt small) ∙ sym (number-bits_of n m))

pub ue_is_word : (v : ℕ) → v < 4294967295 → IsUe (ue_word v) v
unfolding ue_word
ue_is_word v small =
    let n = bits_after_one (v + 1) in
    let is = top_of (v + 1) (omega arith) (omega arith) in
    (n, v + 1 - 2 ^ n, is.few, omega (arith, is.low, is.high), ap (λ t. replicate n false ++ true ∷ t) (low_bits n (v + 1) is), omega (arith, is.low))

-- the value at its place
pub signed_back : (v : ℤ) → v ≡ signed_value (signed_index v)
signed_back v = grind (arith, nat_tests)

pub index_small : (v : ℤ) → neg_ℤ (pos 2147483648) <ℤ v → v <ℤ pos 2147483648 → signed_index v < 4294967295
index_small v low high = grind (arith, ints)

pub se_is_word : (v : ℤ) → neg_ℤ (pos 2147483648) <ℤ v → v <ℤ pos 2147483648 → IsSe (se_word v) v
unfolding se_word
se_is_word v low high = (signed_index v, ue_is_word (signed_index v) (index_small v low high), signed_back v)

pub te_is_word : (range v : ℕ) → 1 ≤ range → v ≤ range → v < 4294967295 → IsTe range (te_word range v) v
te_is_word zero v some within small = absurd (omega arith)
te_is_word (suc zero) v some within small = (within, refl)
te_is_word (suc (suc range)) v some within small =
    let other : (suc (suc range) == 1) ≡ false = ne_eqb (suc (suc range)) 1 (omega arith) in
    rw other (ue_is_word v small)

-- ---- bits put one after another

pub ue_put : (v next count : ℕ) → next ≡ v + 1 → count ≡ bits_after_one next → bits_of count 0 ++ true ∷ bits_of count next ≡ ue_word v
unfolding ue_word
ue_put v next count is_next is_count = rw (is_count, is_next, bits_of-zero) refl

-- ---- bits that fill bytes

pub filled_length : (bytes : List ℕ) (bits : List Bool) (padding : ℕ) → IsFilled bytes bits padding → 8 * length bytes ≡ length bits + padding
filled_length bytes bits padding is = omega (arith, ap length is.filled, length-byte_bits bytes, length-append bits (replicate padding false), length-replicate padding false)

-- the bits are those of the bytes without the padding
pub filled_bits : (bytes : List ℕ) (bits : List Bool) (padding : ℕ) → IsFilled bytes bits padding → take (8 * length bytes - padding) (byte_bits bytes) ≡ bits
filled_bits bytes bits padding is = grind (arith, common_steps, nat_tests, ints, filled_length, take-append_seam)

pub filled_by : (bytes : List ℕ) (bits : List Bool) (padding : ℕ) → IsFilled bytes bits padding → IsFilled bytes (take (8 * length bytes - padding) (byte_bits bytes)) padding
filled_by bytes bits padding is = rw (filled_bits bytes bits padding is) is

-- two ways to part the same bits
seam : (a b c d : List Bool) → a ++ b ≡ c ++ d → length a ≤ length c → (b ≡ drop (length a) c ++ d) × (c ≡ a ++ drop (length a) c)
seam a b c d same le =
    let front : take (length a) c ≡ a = sym (take-append-le (length a) c d le) ∙ ap (take (length a)) (sym same) ∙ take-append_seam a b in (
      sym (drop-append_seam a b) ∙ ap (drop (length a)) same ∙ drop-append-le (length a) c d le,
      sym (take-append-drop (length a) c) ∙ ap (λ t. t ++ drop (length a) c) front,
    )

one_byte : (x : ℕ) → byte_bits (x ∷ []) ≡ bits_of 8 x
one_byte x = append-nil (bits_of 8 x)

-- the next bit of the last byte
pub filled_more : (rest : List ℕ) (last x k : ℕ) (bits : List Bool) (bit : Bool) → IsFilled (rest ++ last ∷ []) bits (suc k)
    → ((front : List Bool) → bits_of 8 last ≡ front ++ false ∷ replicate k false → bits_of 8 x ≡ front ++ bit ∷ replicate k false) → IsFilled (rest ++ x ∷ []) (bits ++ bit ∷ []) k
filled_more rest last x k bits bit is byte =
    let a = byte_bits rest in
    let whole : a ++ bits_of 8 last ≡ bits ++ replicate (suc k) false = ap (λ t. a ++ t) (sym (one_byte last)) ∙ sym (byte_bits-append rest (last ∷ [])) ∙ is.filled in
    let len = filled_length (rest ++ last ∷ []) bits (suc k) is in
    let parts = seam a (bits_of 8 last) bits (replicate (suc k) false) whole (omega (arith, is.few, len, length-append rest (last ∷ []), length-byte_bits rest)) in
    let front = drop (length a) bits in
    record {
      few = omega (arith, is.few);
      filled =
          byte_bits-append rest (x ∷ []) ∙ ap (λ t. a ++ t) (one_byte x ∙ byte front parts.0)
          ∙ sym (append_assoc a front (bit ∷ replicate k false)) ∙ ap (λ t. t ++ bit ∷ replicate k false) (sym parts.1)
          ∙ sym (append_assoc bits (bit ∷ []) (replicate k false));
    }

-- a byte with the first of its last zeros
pub set_bit : (byte place : ℕ) (front : List Bool) → byte < 256 → place < 8 → bits_of 8 byte ≡ front ++ false ∷ replicate place false →
    bits_of 8 (bit_or byte (1 * 2 ^ place % 256)) ≡ front ++ true ∷ replicate place false
set_bit byte place front small within is =
    let zeros = replicate place false in
    let tail : length (false ∷ zeros) ≡ suc place = ap (λ k. suc k) (length-replicate place false) in
    let value : byte ≡ number_of front * 2 ^ suc place =
    sym (mod-eq_of_lt small) ∙ sym (number-bits_of 8 byte) ∙ ap number_of is ∙ number-append front (false ∷ zeros) ∙ ap (λ k. number_of front * 2 ^ k + number_of zeros) tail
    ∙ omega (arith, number-zeros place) in
    let fits : 1 * 2 ^ place % 2 ^ 8 ≡ 2 ^ place = one_shl place 8 within in
    let low : 2 ^ place < 2 ^ suc place = omega (arith, pow-succ' 2 place, pow_pos place) in
    let one : number_of (true ∷ zeros) ≡ 2 ^ place = omega (arith, number-zeros place, ap (λ k. 2 ^ k) (length-replicate place false)) in
    let sum : bit_or byte (1 * 2 ^ place % 256) ≡ number_of (front ++ true ∷ zeros) =
    ap (λ v. bit_or byte v) fits ∙ ap (λ v. bit_or v (2 ^ place)) value ∙ or_shifted (number_of front) (suc place) (2 ^ place) low
    ∙ sym (number-append front (true ∷ zeros) ∙ ap (λ k. number_of front * 2 ^ k + number_of (true ∷ zeros)) tail ∙ ap (λ v. number_of front * 2 ^ suc place + v) one) in
    let len : length (front ++ true ∷ zeros) ≡ 8 = length-append front (true ∷ zeros) ∙ sym (length-append front (false ∷ zeros)) ∙ ap length (sym is) ∙ length-bits_of 8 byte in
    ap (bits_of 8) sum ∙ bits_of-number 8 (front ++ true ∷ zeros) len

-- ---- what is escaped, read again

-- after no zero, after one and after two
byte_removed : (b : ℕ) (bytes : List ℕ) → rbsp (escaped_after 0 bytes) ≡ bytes → rbsp (0 ∷ escaped_after 1 bytes) ≡ 0 ∷ bytes → rbsp (0 ∷ 0 ∷ escaped_after 2 bytes) ≡ 0 ∷ 0 ∷ bytes →
    (count : ℕ) → count ≤ 2 → rbsp (replicate count 0 ++ escaped_after count (b ∷ bytes)) ≡ replicate count 0 ++ b ∷ bytes
unfolding escaped_after
byte_removed b bytes none one two zero few = grind (arith, nat_tests)
byte_removed b bytes none one two (suc zero) few = grind (arith, nat_tests)
byte_removed b bytes none one two (suc (suc zero)) few = grind (arith, nat_tests)
byte_removed b bytes none one two (suc (suc (suc count))) few = absurd (omega arith)

pub removed : (count : ℕ) (bytes : List ℕ) → count ≤ 2 → rbsp (replicate count 0 ++ escaped_after count bytes) ≡ replicate count 0 ++ bytes
unfolding escaped_after
removed zero [] few = refl
removed (suc zero) [] few = refl
removed (suc (suc zero)) [] few = refl
removed (suc (suc (suc count))) [] few = absurd (omega arith)
removed count (b ∷ bytes) few = byte_removed b bytes (removed 0 bytes (omega arith)) (removed 1 bytes (omega arith)) (removed 2 bytes (omega arith)) count few

-- one byte more
pub escaped_more : (out out' bytes all : List ℕ) (i count count' : ℕ) → i < length bytes → out' ≡ out ++ escaped_byte count (get_or bytes i 0) → count' ≡ zeros_with count (get_or bytes i 0) →
    out ++ escaped_after count (drop i bytes) ≡ all → out' ++ escaped_after count' (drop (i + 1) bytes) ≡ all
unfolding escaped_after
escaped_more out out' bytes all i count count' within is_out is_count sum =
    let next = drop_more bytes i 0 within in
    rw (is_out, is_count, append_assoc) (rw next at sum)

pub escaped_all : (out bytes all : List ℕ) (i count : ℕ) → length bytes ≤ i → out ++ escaped_after count (drop i bytes) ≡ all → out ≡ all
unfolding escaped_after
escaped_all out bytes all i count past sum = sym (append-nil out) ∙ ap (λ l. out ++ escaped_after count l) (sym (drop_of_length-le bytes past)) ∙ sum

-- no start stands at the front, and none further on
abbrev HasNone : List ℕ → Type 0
HasNone [] = Unit {0}
HasNone (x ∷ bytes) = (x ≡ 0 → get_or bytes 0 1 ≡ 0 → 3 ≤ get_or bytes 1 3) × HasNone bytes

none_starts : (bytes : List ℕ) → HasNone bytes → HasNoStart bytes
none_starts [] none front rest b is = absurd (omega (arith, ap length is, length-append front (0 ∷ 0 ∷ b ∷ rest)))
none_starts (x ∷ bytes) none [] rest b is = grind arith
none_starts (x ∷ bytes) none (y ∷ front) rest b is = none_starts bytes none.1 front rest b (ap (drop 1) is)

byte_starts : (b : ℕ) (bytes : List ℕ) → HasNone (escaped_after 0 bytes) → HasNone (0 ∷ escaped_after 1 bytes) → HasNone (0 ∷ 0 ∷ escaped_after 2 bytes) →
    (count : ℕ) → count ≤ 2 → HasNone (replicate count 0 ++ escaped_after count (b ∷ bytes))
unfolding escaped_after
byte_starts b bytes none one two count few = grind (arith, nat_tests)

escaped_none : (count : ℕ) (bytes : List ℕ) → count ≤ 2 → HasNone (replicate count 0 ++ escaped_after count bytes)
unfolding escaped_after
escaped_none zero [] few = tt
escaped_none (suc zero) [] few = ((λ e f. omega arith), tt)
escaped_none (suc (suc zero)) [] few = ((λ e f. omega arith), ((λ e f. omega arith), tt))
escaped_none (suc (suc (suc count))) [] few = absurd (omega arith)
escaped_none count (b ∷ bytes) few = byte_starts b bytes (escaped_none 0 bytes (omega arith)) (escaped_none 1 bytes (omega arith)) (escaped_none 2 bytes (omega arith)) count few

pub no_start : (bytes : List ℕ) → HasNoStart (escaped_after 0 bytes)
no_start bytes = none_starts (escaped_after 0 bytes) (escaped_none 0 bytes (omega arith))

-- ---- the bits of an RBSP, read again

pub rbsp_is_read : RbspsAreRead
rbsp_is_read bits bytes is =
    ap (λ b. or_none (before_last_one b)) ((is.1).filled ∙ append_assoc bits (true ∷ []) (replicate is.0 false))
    ∙ ap or_none (before_one bits is.0)
