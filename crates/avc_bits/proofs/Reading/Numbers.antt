-- Bits, the numbers that they spell, and the stop bit.
pub mod Common
unfoldable pub use Common.*

-- ---- bits and the numbers that they spell

pub length-bits_of : (width n : ℕ) → length (bits_of width n) ≡ width
length-bits_of zero n = refl
length-bits_of (suc width) n = ap (λ k. suc k) (length-bits_of width n)

pub number-append : (a b : List Bool) → number_of (a ++ b) ≡ number_of a * 2 ^ length b + number_of b
number-append [] b = omega arith
number-append (true ∷ a) b = omega (arith, number-append a b, length-append a b, ap (λ n. 2 ^ n) (length-append a b), pow-add 2 (length a) (length b))
number-append (false ∷ a) b = omega (arith, number-append a b)

pub number_lt : (a : List Bool) → number_of a < 2 ^ length a
number_lt [] = omega arith
number_lt (true ∷ a) = omega (arith, number_lt a, pow-succ' 2 (length a))
number_lt (false ∷ a) = omega (arith, number_lt a, pow-succ' 2 (length a), pow_pos (length a))

one_bit : (m : ℕ) (bits : List Bool) → m < 2 → number_of (eqb m 1 ∷ bits) ≡ m * 2 ^ length bits + number_of bits
one_bit zero bits small = omega arith
one_bit (suc zero) bits small = omega arith
one_bit (suc (suc m)) bits small = absurd (omega arith)

-- the bits of a number spell it, up to their width
pub number-bits_of : (width n : ℕ) → number_of (bits_of width n) ≡ n % 2 ^ width
number-bits_of zero n = omega arith
number-bits_of (suc width) n =
    one_bit (n / 2 ^ width % 2) (bits_of width n) (omega arith)
    ∙ rw (length-bits_of width n, number-bits_of width n)
    (sym (ap (λ k. n % 2 ^ k) (omega arith) ∙ mod-pow-add n 1 width))

-- as many bits with the same number are the same
pub number-inj : (a b : List Bool) → length a ≡ length b → number_of a ≡ number_of b → a ≡ b
number-inj [] [] len same = refl
number-inj (true ∷ a) (true ∷ b) len same = let l : length a ≡ length b = omega arith in ap (λ t. true ∷ t) (number-inj a b l (omega (arith, ap (λ k. 2 ^ k) l)))
number-inj (false ∷ a) (false ∷ b) len same = ap (λ t. false ∷ t) (number-inj a b (omega arith) same)
number-inj (true ∷ a) (false ∷ b) len same = let l : length a ≡ length b = omega arith in absurd (omega (arith, ap (λ k. 2 ^ k) l, number_lt b))
number-inj (false ∷ a) (true ∷ b) len same = let l : length a ≡ length b = omega arith in absurd (omega (arith, ap (λ k. 2 ^ k) l, number_lt a))
number-inj a b len same = absurd (omega arith)

pub below_width : (n : ℕ) (bits : List Bool) → length bits ≡ n → number_of bits < 2 ^ n
below_width n bits len = omega (arith, number_lt bits, ap (λ k. 2 ^ k) len)

-- the bits of the number that bits are
pub bits_of-number : (n : ℕ) (bits : List Bool) → length bits ≡ n → bits_of n (number_of bits) ≡ bits
bits_of-number n bits len =
    number-inj (bits_of n (number_of bits)) bits (length-bits_of n (number_of bits) ∙ sym len) (number-bits_of n (number_of bits) ∙ mod-eq_of_lt (below_width n bits len))

-- a part of a number's bits
pub drop-bits_of : (first width total n : ℕ) → total ≡ first + width → drop first (bits_of total n) ≡ bits_of width n
drop-bits_of zero width total n sum = ap (λ k. bits_of k n) (omega arith)
drop-bits_of (suc first) width zero n sum = absurd (omega arith)
drop-bits_of (suc first) width (suc total) n sum = drop-bits_of first width total n (omega arith)

pub length-byte_bits : (bytes : List ℕ) → length (byte_bits bytes) ≡ 8 * length bytes
length-byte_bits [] = refl
length-byte_bits (b ∷ bytes) = omega (arith, length-byte_bits bytes, length-append (bits_of 8 b) (byte_bits bytes), length-bits_of 8 b)

pub number-zeros : (n : ℕ) → number_of (replicate n false) ≡ 0
number-zeros zero = refl
number-zeros (suc n) = number-zeros n

pub bits_of-zero : (n : ℕ) → bits_of n 0 ≡ replicate n false
bits_of-zero zero = refl
bits_of-zero (suc n) =
    let none : 0 / 2 ^ n % 2 ≡ 0 = omega arith in
    rw (bits_of-zero n, none) refl

pub byte_bits-append : (a b : List ℕ) → byte_bits (a ++ b) ≡ byte_bits a ++ byte_bits b
byte_bits-append a b = flat_map-append (bits_of 8) a b

pub take_front : {X : Type 0} (xs : List X) (place count total : ℕ) → place + count ≤ total → take count (drop place (take total xs)) ≡ take count (drop place xs)
take_front xs place count total fits =
    let sum : total ≡ place + (total - place) = omega arith in
    rw sum (ap (take count) (drop-take place (total - place) xs) ∙ take-take count (total - place) (drop place xs) (omega arith))

-- ---- powers of 2

pub pow_lt_back : (a b : ℕ) → 2 ^ a < 2 ^ b → a < b
pow_lt_back a b less = elim (cases_order a b) [ inl same ↦ absurd (omega (arith, ap (λ k. 2 ^ k) same)) | inr (inl below) ↦ below | inr (inr above) ↦ absurd (omega (arith, pow_below b a above)) ]

pub pow_lt_trans : (value a b : ℕ) → value < 2 ^ a → a ≤ b → value < 2 ^ b
pow_lt_trans value a b small less = elim (cases_order a b) [ inl same ↦ rw (← same) small | inr (inl below) ↦ omega (arith, pow_below a b below) | inr (inr above) ↦ absurd (omega arith) ]

-- ---- a part of the bits

-- the number of the first bits, and of those after them
pub number-take : (n : ℕ) (bits : List Bool) → number_of bits / 2 ^ (length bits - n) ≡ number_of (take n bits)
number-take n bits =
    let e = shr_high (number_of (take n bits)) (length (drop n bits)) (number_of (drop n bits)) (number_lt (drop n bits)) in
    rw (← number-append (take n bits) (drop n bits), take-append-drop n bits, length-drop n bits) at e

number-drop : (n : ℕ) (bits : List Bool) → number_of bits % 2 ^ (length bits - n) ≡ number_of (drop n bits)
number-drop n bits =
    let e = mod-mul-add (number_of (take n bits)) (2 ^ length (drop n bits)) (number_of (drop n bits)) (number_lt (drop n bits)) in
    rw (← number-append (take n bits) (drop n bits), take-append-drop n bits, length-drop n bits) at e

-- some of the bits
pub number-part : (first count total : ℕ) (bits : List Bool) → length bits ≡ total → first + count ≤ total → number_of bits / 2 ^ (total - first - count) % 2 ^ count ≡ number_of (take count (drop first bits))
number-part first count total bits len fits =
    let low = total - first - count in
    let rest : length (drop first bits) ≡ total - first = length-drop first bits ∙ ap (λ k. k - first) len in
    let sum : length bits - first ≡ count + low = omega (arith, len) in
    sym (field_of (number_of bits) count low) ∙ ap (λ k. number_of bits % 2 ^ k / 2 ^ low) (sym sum)
    ∙ ap (λ v. v / 2 ^ low) (number-drop first bits)
    ∙ ap (λ k. number_of (drop first bits) / 2 ^ k) (omega (arith, rest))
    ∙ number-take count (drop first bits)

-- a field of 64 bits, by shifts
pub field64_is : (eight first count : ℕ) → first + count ≤ 64 → count ≤ 63 → eight * 2 ^ first % 2 ^ 64 / 2 / 2 ^ (63 - count) ≡ eight / 2 ^ (64 - first - count) % 2 ^ count
field64_is eight first count fits few =
    let low = 64 - first - count in
    let sum : 1 + (63 - count) ≡ first + low = omega arith in
    let whole : 64 ≡ count + (first + low) = omega arith in
    shr-shr (eight * 2 ^ first % 2 ^ 64) 1 (63 - count)
    ∙ ap (λ k. eight * 2 ^ first % 2 ^ 64 / 2 ^ k) sum
    ∙ ap (λ k. eight * 2 ^ first % 2 ^ k / 2 ^ (first + low)) whole
    ∙ field_of (eight * 2 ^ first) count (first + low)
    ∙ ap (λ v. v % 2 ^ count) (sym (shr-shr (eight * 2 ^ first) first low) ∙ ap (λ v. v / 2 ^ low) (shl-shr eight first))

pub field_fits : (n count : ℕ) → count ≤ 32 → (n % 2 ^ count < 2 ^ count) × (n % 2 ^ count < 2 ^ 32)
field_fits n count few =
    let below : n % 2 ^ count < 2 ^ count = mod-lt n (pow_pos count) in
    (below, pow_lt_trans (n % 2 ^ count) count 32 below few)

-- ---- bytes

bytes_split : (n : ℕ) (bytes : List ℕ) → byte_bits bytes ≡ byte_bits (take n bytes) ++ byte_bits (drop n bytes)
bytes_split n bytes = ap byte_bits (sym (take-append-drop n bytes)) ∙ byte_bits-append (take n bytes) (drop n bytes)

first_long : (n : ℕ) (bytes : List ℕ) → n ≤ length bytes → length (byte_bits (take n bytes)) ≡ 8 * n
first_long n bytes within = omega (arith, length-byte_bits (take n bytes), length-take-le n bytes within)

-- some of the bytes
pub part_bits : (bytes : List ℕ) (first count : ℕ) → first + count ≤ length bytes → take (8 * count) (drop (8 * first) (byte_bits bytes)) ≡ byte_bits (take count (drop first bytes))
part_bits bytes first count inside =
    let rest = drop first bytes in
    ap (λ t. take (8 * count) (drop (8 * first) t)) (bytes_split first bytes)
    ∙ ap (take (8 * count)) (drop_at (byte_bits (take first bytes)) (byte_bits rest) (8 * first) (first_long first bytes (omega arith)) ∙ bytes_split count rest)
    ∙ take_at (byte_bits (take count rest)) (byte_bits (drop count rest)) (8 * count) (first_long count rest (omega (arith, length-drop first bytes)))

-- one byte more
pub next_byte : (bytes : List ℕ) (k : ℕ) → k < length bytes → get_or bytes k 0 < 256 →
    number_of (byte_bits (take k bytes)) * 256 + get_or bytes k 0 ≡ number_of (byte_bits (take (k + 1) bytes))
next_byte bytes k within small =
    let byte = bits_of 8 (get_or bytes k 0) in
    let parts : byte_bits (take (k + 1) bytes) ≡ byte_bits (take k bytes) ++ byte = ap byte_bits (take_more bytes k 0 within) ∙ byte_bits-append (take k bytes) (get_or bytes k 0 ∷ []) in
    omega (arith, ap number_of parts, number-append (byte_bits (take k bytes)) byte, number-bits_of 8 (get_or bytes k 0))

-- a number of few bytes
pub few_below : (bytes : List ℕ) (k most : ℕ) → 8 * k ≤ most → k ≤ length bytes → number_of (byte_bits (take k bytes)) < 2 ^ most
few_below bytes k most fits within =
    pow_lt_trans (number_of (byte_bits (take k bytes))) (8 * k) most (below_width (8 * k) (byte_bits (take k bytes)) (first_long k bytes within)) fits

-- eight bytes, the first one the most significant
pub eight_from : (bytes : List ℕ) (first : ℕ) → first + 8 ≤ length bytes → ((k : ℕ) → get_or bytes k 0 < 256) →
    get_or bytes first 0 * 72057594037927936 + get_or bytes (first + 1) 0 * 281474976710656 + get_or bytes (first + 2) 0 * 1099511627776 + get_or bytes (first + 3) 0 * 4294967296
    + get_or bytes (first + 4) 0 * 16777216 + get_or bytes (first + 5) 0 * 65536 + get_or bytes (first + 6) 0 * 256 + get_or bytes (first + 7) 0
    ≡ number_of (take 64 (drop (8 * first) (byte_bits bytes)))
eight_from bytes first inside small =
    let part = drop first bytes in
    let here : (k : ℕ) → get_or part k 0 ≡ get_or bytes (first + k) 0 = λ k. get_or-drop first bytes k 0 in
    let step : (k : ℕ) → k < 8 → number_of (byte_bits (take k part)) * 256 + get_or bytes (first + k) 0 ≡ number_of (byte_bits (take (k + 1) part)) =
    λ k below. rw (← here k) (next_byte part k (omega (arith, length-drop first bytes)) (omega (arith, here k, small (first + k)))) in
    let none : get_or bytes (first + 0) 0 ≡ get_or bytes first 0 = ap (λ k. get_or bytes k 0) (omega arith) in
    omega (arith, ap number_of (part_bits bytes first 8 inside), step 0 (lit< tt), step 1 (lit< tt), step 2 (lit< tt), step 3 (lit< tt), step 4 (lit< tt), step 5 (lit< tt), step 6 (lit< tt), step 7 (lit< tt))

-- the bits at a place in a byte, by so many bytes from there on
pub few_from : (bytes : List ℕ) (byte bit position count held value : ℕ) → position ≡ 8 * byte + bit → bit + count ≤ 8 * held → byte + held ≤ length bytes →
    value ≡ number_of (take (8 * held) (drop (8 * byte) (byte_bits bytes))) →
    value / 2 ^ (8 * held - bit - count) % 2 ^ count ≡ number_of (take count (drop position (byte_bits bytes)))
few_from bytes byte bit position count held value at fits inside is =
    search (rules, length-drop, length-byte_bits, number-part, length-take-le, take_front, drop-drop)

-- ---- where the stop bit stands

before_none : (n : ℕ) → before_last_one (replicate n false) ≡ None
before_none zero = refl
before_none (suc n) = rw (before_none n) refl

pub before_one : (front : List Bool) (n : ℕ) → before_last_one (front ++ true ∷ replicate n false) ≡ Some front
before_one [] n = rw (before_none n) refl
before_one (true ∷ front) n = rw (before_one front n) refl
before_one (false ∷ front) n = rw (before_one front n) refl

-- zeros have no 1
pub byte_bits-zeros : (bytes : List ℕ) → ((k : ℕ) → get_or bytes k 0 ≡ 0) → byte_bits bytes ≡ replicate (8 * length bytes) false
byte_bits-zeros [] zeros = refl
byte_bits-zeros (b ∷ bytes) zeros =
    let first : b ≡ 0 = zeros 0 in
    let sum : 8 * suc (length bytes) ≡ 8 + 8 * length bytes = omega arith in
    rw (first, byte_bits-zeros bytes (λ k. zeros (suc k)), sum) (replicate-append-replicate 8 (8 * length bytes) false)

pub bits_of-zeros : (width n : ℕ) → ((i : ℕ) → i < width → bit_at n i ≡ 0) → bits_of width n ≡ replicate width false
bits_of-zeros zero n zeros = refl
bits_of-zeros (suc width) n zeros = rw (zeros width (omega arith), bits_of-zeros width n (λ i below. zeros i (omega arith))) refl

-- how many bits stand before the stop bit, where the lowest 1 of a byte stands and only zeros follow
pub stops : (bytes : List ℕ) (last low : ℕ) → last < length bytes → low < 8 → bit_at (get_or bytes last 0) low ≡ 1 → ((i : ℕ) → i < low → bit_at (get_or bytes last 0) i ≡ 0) →
    ((k : ℕ) → last < k → get_or bytes k 0 ≡ 0) → 8 * last + (7 - low) ≡ length (bits_before_stop bytes)
stops bytes last low within small one zeros after =
    let byte = get_or bytes last 0 in
    let high = take (7 - low) (bits_of 8 byte) in
    let front = byte_bits (take last bytes) ++ high in
    let rest = drop (last + 1) bytes in
    let ends : true ∷ replicate low false ≡ drop (7 - low) (bits_of 8 byte) = sym (drop-bits_of (7 - low) (suc low) 8 byte (omega arith) ∙ rw (one, bits_of-zeros low byte zeros) refl) in
    let none : byte_bits rest ≡ replicate (8 * length rest) false = byte_bits-zeros rest (λ k. get_or-drop (last + 1) bytes k 0 ∙ after (last + 1 + k) (omega arith)) in
    let whole : byte_bits bytes ≡ front ++ true ∷ replicate (low + 8 * length rest) false =
    bytes_split last bytes ∙ ap (λ t. byte_bits (take last bytes) ++ byte_bits t) (drop_more bytes last 0 within)
    ∙ ap (λ t. byte_bits (take last bytes) ++ (t ++ byte_bits rest)) (sym (take-append-drop (7 - low) (bits_of 8 byte)))
    ∙ rw (← ends, none) (simp (append_assoc, replicate-append-replicate)) in
    rw (whole, before_one front (low + 8 * length rest), length-append (byte_bits (take last bytes)) high)
    (omega (arith, first_long last bytes (omega arith), length-take-le (7 - low) (bits_of 8 byte) (omega (arith, length-bits_of 8 byte))))

pub stops_never : (bytes : List ℕ) → ((k : ℕ) → get_or bytes k 0 ≡ 0) → 0 ≡ length (bits_before_stop bytes)
stops_never bytes zeros = rw (byte_bits-zeros bytes zeros, before_none (8 * length bytes)) refl

-- the bits before the last 1 are the first ones
one_prefix : (bits : List Bool) → or_none (before_last_one bits) ≡ take (length (or_none (before_last_one bits))) bits
one_prefix [] = refl
one_prefix (b ∷ bits) = search (rules, one_prefix bits)

pub stop_prefix : (bytes : List ℕ) → bits_before_stop bytes ≡ take (length (bits_before_stop bytes)) (byte_bits bytes)
stop_prefix bytes = one_prefix (byte_bits bytes)
