-- Reading the bits that stand ahead: bits, codes, whole bytes, and parts of the syntax again and again.
pub mod Numbers
unfoldable pub use Numbers.*
use lib.Count.{count_leading_zeros}
use Rattle.avc_types.specs.declared.fault.Fault.TheVariants as faults

-- ---- reading the bits that stand ahead: so many bits

pub split_short : (n : ℕ) (bits : List Bool) → length bits < n → split n bits ≡ None
split_short zero bits short = absurd (omega arith)
split_short (suc n) [] short = refl
split_short (suc n) (b ∷ bits) short = rw (split_short n bits (omega arith)) refl

pub split_long : (n : ℕ) (bits : List Bool) → n ≤ length bits → split n bits ≡ Some (take n bits, drop n bits)
split_long zero bits long = refl
split_long (suc n) [] long = absurd (omega arith)
split_long (suc n) (b ∷ bits) long = rw (split_long n bits (omega arith)) refl

pub u_short : (n : ℕ) (b : Bits) → length b.ahead < n → u n b ≡ Err Truncated
u_short n b short = rw (split_short n b.ahead short) refl

pub u_long : (n : ℕ) (b : Bits) → n ≤ length b.ahead → u n b ≡ Ok (number_of (take n b.ahead), passed b n)
u_long n b long = rw (split_long n b.ahead long) refl

pub skip_short : (n : ℕ) (b : Bits) → length b.ahead < n → skip n b ≡ Err Truncated
skip_short n b short = rw (split_short n b.ahead short) refl

pub skip_long : (n : ℕ) (b : Bits) → n ≤ length b.ahead → skip n b ≡ Ok (tt, passed b n)
skip_long n b long = rw (split_long n b.ahead long) refl

-- ---- zeros in front

zeros_found : (limit : ℕ) (fault : Fault) (seen : ℕ) (bits : List Bool) → seen + leading bits ≤ limit → leading bits < length bits →
    zeros limit fault seen bits ≡ Ok (seen + leading bits, drop (leading bits + 1) bits)
unfolding leading
zeros_found limit fault seen [] few some = absurd (omega arith)
zeros_found limit fault seen (true ∷ bits) few some = ap (λ k. Ok (k, bits)) (omega arith)
zeros_found limit fault seen (false ∷ bits) few some =
    let one : suc (leading bits) + 1 ≡ suc (leading bits + 1) = omega arith in
    rw (zeros, lt-ltb seen limit (omega arith), one) (zeros_found limit fault (seen + 1) bits (omega arith) (omega arith) ∙ ap (λ k. Ok (k, drop (leading bits + 1) bits)) (omega arith))

zeros_many : (limit : ℕ) (fault : Fault) (seen : ℕ) (bits : List Bool) → seen ≤ limit → limit < seen + leading bits → zeros limit fault seen bits ≡ Err fault
unfolding leading
zeros_many limit fault seen [] start many = absurd (omega arith)
zeros_many limit fault seen (true ∷ bits) start many = absurd (omega arith)
zeros_many limit fault seen (false ∷ bits) start many = elim (cases_lt seen limit) [
  | inl less ↦ rw (zeros, lt-ltb seen limit less) (zeros_many limit fault (seen + 1) bits (omega arith) (omega arith))
  | inr more ↦ rw (zeros, le-ltb seen limit more) refl
]

zeros_short : (limit : ℕ) (fault : Fault) (seen : ℕ) (bits : List Bool) → seen + leading bits ≤ limit → length bits ≤ leading bits → zeros limit fault seen bits ≡ Err Truncated
unfolding leading
zeros_short limit fault seen [] few none = refl
zeros_short limit fault seen (true ∷ bits) few none = absurd (omega arith)
zeros_short limit fault seen (false ∷ bits) few none = rw (zeros, lt-ltb seen limit (omega arith)) (zeros_short limit fault (seen + 1) bits (omega arith) (omega arith))

pub before_many : (limit : ℕ) (fault : Fault) (b : Bits) → limit < leading b.ahead → zeros_before_one limit fault b ≡ Err fault
before_many limit fault b many = rw (zeros_many limit fault 0 b.ahead (omega arith) (omega arith)) refl

pub before_short : (limit : ℕ) (fault : Fault) (b : Bits) → leading b.ahead ≤ limit → length b.ahead ≤ leading b.ahead → zeros_before_one limit fault b ≡ Err Truncated
before_short limit fault b few none = rw (zeros_short limit fault 0 b.ahead (omega arith) none) refl

pub before_found : (limit : ℕ) (fault : Fault) (b : Bits) → leading b.ahead ≤ limit → leading b.ahead < length b.ahead →
    zeros_before_one limit fault b ≡ Ok (leading b.ahead, passed b (leading b.ahead + 1))
before_found limit fault b few some = search (rules, zeros_found)

pub before_from : (limit : ℕ) (fault : Fault) (b after : Bits) (count : ℕ) → count ≡ leading b.ahead → count ≤ limit → count < length b.ahead → after ≡ passed b (count + 1) →
    zeros_before_one limit fault b ≡ Ok (count, after)
before_from limit fault b after count is few some is_after =
    before_found limit fault b (omega arith) (omega arith) ∙ ap (λ k. Ok (k, passed b (k + 1))) (sym is) ∙ ap (λ t. Ok (count, t)) (sym is_after)

-- ---- ue

pub ue_too_long : (b : Bits) → 31 < leading b.ahead → ue b ≡ Err CodeTooLong
ue_too_long b long = rw (before_many 31 CodeTooLong b long) refl

pub ue_short : (b : Bits) → leading b.ahead ≤ 31 → length b.ahead < 2 * leading b.ahead + 1 → ue b ≡ Err Truncated
ue_short b few short = elim (cases_lt (leading b.ahead) (length b.ahead)) [
  | inl some ↦
      rw (before_found 31 CodeTooLong b few some, u_short (leading b.ahead) (passed b (leading b.ahead + 1)) (omega (arith, length-drop (leading b.ahead + 1) b.ahead))) refl
  | inr none ↦ rw (before_short 31 CodeTooLong b few none) refl
]

pub ue_long : (b : Bits) → leading b.ahead ≤ 31 → 2 * leading b.ahead + 1 ≤ length b.ahead →
    ue b ≡ Ok (2 ^ leading b.ahead - 1 + number_of (take (leading b.ahead) (drop (leading b.ahead + 1) b.ahead)), passed b (2 * leading b.ahead + 1))
ue_long b few long = search (rules, drop-drop, before_found, u_long, length-drop)

-- ---- what the reader has

pub number-take_lt : (n : ℕ) (bits : List Bool) → number_of (take n bits) < 2 ^ n
number-take_lt n bits = pow_lt_trans (number_of (take n bits)) (length (take n bits)) n (number_lt (take n bits)) (omega (arith, length-take n bits))

-- what is left before the stop bit
pub left_is : (r : BitReader) → left_of r ≡ length (bits_before_stop r.bytes.now) - position_of r
left_is r = grind (arith, r.stops, r.past)

-- where some are left none were passed beyond the stop bit
pub none_beyond : (r : BitReader) → 0 < left_of r → r.beyond ≡ 0
none_beyond r some = grind (arith, r.past)

-- those that are left are bits of the bytes
pub within_bytes : (r : BitReader) (count : ℕ) → 0 < count → count ≤ left_of r → position_of r + count ≤ 8 * length r.bytes.now
within_bytes r count some there = omega (arith, none_beyond r (omega arith), r.inside, r.before)

pub length-ahead : (r : BitReader) → length (reader_bits r).ahead ≡ left_of r
unfolding reader_bits
length-ahead r = length-drop (position_of r) (bits_before_stop r.bytes.now) ∙ sym (left_is r)

take_drop : {X : Type 0} (first count : ℕ) (xs : List X) → take count (drop first xs) ≡ drop first (take (first + count) xs)
take_drop first count xs = sym (drop-take first count xs)

pub some_left : (b : Bits) (left : ℕ) → length b.ahead ≡ left → nat_lt 0 left ≡ more_data b
some_left b left len = search (rules)

-- the next bits are those of the bytes
pub take-ahead : (r : BitReader) (count : ℕ) → count ≤ left_of r → take count (reader_bits r).ahead ≡ take count (drop (position_of r) (byte_bits r.bytes.now))
unfolding reader_bits
take-ahead r zero there = refl
take-ahead r (suc count) there =
    ap (λ t. take (suc count) (drop (position_of r) t)) (stop_prefix r.bytes.now)
    ∙ take_front (byte_bits r.bytes.now) (position_of r) (suc count) (length (bits_before_stop r.bytes.now)) (omega (arith, left_is r))

-- and those after some of them
pub take_later : (r : BitReader) (first count : ℕ) → first + count ≤ left_of r → take count (drop first (reader_bits r).ahead) ≡ take count (drop (position_of r + first) (byte_bits r.bytes.now))
take_later r first zero there = refl
take_later r first (suc count) there =
    take_drop first (suc count) (reader_bits r).ahead ∙ ap (drop first) (take-ahead r (first + suc count) there)
    ∙ sym (take_drop first (suc count) (drop (position_of r) (byte_bits r.bytes.now)))
    ∙ ap (take (suc count)) (drop-drop first (position_of r) (byte_bits r.bytes.now))

-- the bits of a window
pub window_is : (bits first count : ℕ) (ahead : List Bool) → 57 ≤ length ahead → bits / 2 ^ 7 ≡ number_of (take 57 ahead) → first + count ≤ 57 →
    bits / 2 ^ (64 - first - count) % 2 ^ count ≡ number_of (take count (drop first ahead))
window_is bits first count ahead long is fits =
    let low = 57 - first - count in
    let sum : 64 - first - count ≡ 7 + low = omega arith in
    ap (λ k. bits / 2 ^ k % 2 ^ count) sum
    ∙ ap (λ v. v % 2 ^ count) (sym (shr-shr bits 7 low))
    ∙ ap (λ v. v / 2 ^ low % 2 ^ count) is
    ∙ number-part first count 57 (take 57 ahead) (length-take-le 57 ahead long) fits
    ∙ ap number_of (take_front ahead first count 57 fits)

pub window_bits : (value bits first count : ℕ) (b : Bits) → value ≡ bits / 2 ^ (64 - first - count) % 2 ^ count → 57 ≤ length b.ahead → bits / 2 ^ 7 ≡ number_of (take 57 b.ahead) → first + count ≤ 57 →
    bits_of count value ≡ take count (drop first b.ahead)
window_bits value bits first count b is_value long is fits =
    ap (bits_of count) (is_value ∙ window_is bits first count b.ahead long is fits)
    ∙ bits_of-number count (take count (drop first b.ahead)) (length-take-le count (drop first b.ahead) (omega (arith, length-drop first b.ahead)))

-- a window of eight bytes
pub window_of_eight : (r : BitReader) (eight : ℕ) → 64 ≤ left_of r → eight ≡ number_of (take 64 (drop (8 * r.byte) (byte_bits r.bytes.now))) →
    eight * 2 ^ r.bit % 2 ^ 64 / 2 ^ 7 ≡ number_of (take 57 (reader_bits r).ahead)
window_of_eight r eight there is =
    let place : position_of r ≡ 8 * r.byte + r.bit = omega (arith, none_beyond r (omega arith)) in
    sym (shr-shr (eight * 2 ^ r.bit % 2 ^ 64) 1 6)
    ∙ field64_is eight r.bit 57 (omega (arith, r.narrow)) (omega arith)
    ∙ few_from r.bytes.now r.byte r.bit (position_of r) 57 8 eight place (omega (arith, r.narrow)) (omega (arith, r.inside)) is
    ∙ ap number_of (sym (take-ahead r 57 (omega arith)))

-- what u reads
pub u_from : (r : BitReader) (count : ℕ) → count ≤ left_of r →
    u count (reader_bits r) ≡ Ok (number_of (take count (drop (position_of r) (byte_bits r.bytes.now))), passed (reader_bits r) count)
u_from r count there = rw (← take-ahead r count there) (u_long count (reader_bits r) (omega (arith, length-ahead r)))

-- ---- zeros that come next

pub leading_le : (bits : List Bool) → leading bits ≤ length bits
unfolding leading
leading_le [] = omega arith
leading_le (true ∷ bits) = omega arith
leading_le (false ∷ bits) = omega (arith, leading_le bits)

leading-take : (n : ℕ) (bits : List Bool) → leading (take n bits) ≡ min (leading bits) n
unfolding leading
leading-take zero bits = omega arith
leading-take (suc n) [] = omega arith
leading-take (suc n) (true ∷ bits) = omega arith
leading-take (suc n) (false ∷ bits) = omega (arith, leading-take n bits)

-- the zeros in front of a number's bits are those that its length leaves
leading_is : (bits : List Bool) (m : ℕ) → number_of bits < 2 ^ m → 2 ^ m ≤ 2 * number_of bits + 1 → leading bits + m ≡ length bits
unfolding leading
leading_is [] m below above =
    let small : m < 1 = pow_lt_back m 1 (omega arith) in
    omega arith
leading_is (true ∷ bits) m below above =
    let more : length bits < m = pow_lt_back (length bits) m (omega arith) in
    let less : m < suc (suc (length bits)) = pow_lt_back m (suc (suc (length bits))) (omega (arith, number_lt bits, pow-succ' 2 (length bits), pow-succ' 2 (suc (length bits)))) in
    omega arith
leading_is (false ∷ bits) m below above = omega (arith, leading_is bits m (omega arith) (omega arith))

-- the count of leading zeros of the next bits as a number
pub leading_from : (bits : List Bool) (count value : ℕ) → count ≡ min (length bits) 32 → value ≡ number_of (take count bits) →
    (32 - count ≤ count_leading_zeros 32 value) × (count_leading_zeros 32 value - (32 - count) ≡ min (leading bits) 32)
leading_from bits count value is_count is_value =
    let front = take count bits in
    let len : length front ≡ count = length-take-le count bits (omega arith) in
    let small : value < 2 ^ count = omega (arith, is_value, number_lt front, ap (λ k. 2 ^ k) len) in
    let wide : value < 2 ^ 32 = pow_lt_trans value count 32 small (omega arith) in
    let l = leading_length 32 value wide in
    let sum : leading front + l.0 ≡ length front = leading_is front l.0 (omega (arith, is_value, l.2)) (omega (arith, is_value, l.3)) in
    (omega (arith, l.1, sum, len), omega (arith, l.1, sum, len, leading-take count bits, leading_le bits))

-- the value of ue stays below 2 ^ 32 - 1
pub ue_fits : (zeros tail : ℕ) → zeros ≤ 31 → tail < 2 ^ zeros → (1 * 2 ^ zeros % 4294967296 ≡ 2 ^ zeros) × (2 ^ zeros - 1 + tail < 4294967295)
ue_fits zeros tail few small =
    let most : 2 ^ zeros - 1 < 2 ^ 31 = pow_lt_trans (2 ^ zeros - 1) zeros 31 (omega (arith, pow_pos zeros)) few in
    (one_shl zeros 32 (omega arith), omega (arith, pow_pos zeros))

-- what ue reads
pub ue_from : (r : BitReader) (after : Bits) (zeros place tail : ℕ) → zeros ≡ leading (reader_bits r).ahead → zeros ≤ 31 → 2 * zeros + 1 ≤ left_of r →
    place ≡ position_of r + (zeros + 1) → tail ≡ number_of (take zeros (drop place (byte_bits r.bytes.now))) → after ≡ passed (reader_bits r) (2 * zeros + 1) →
    ue (reader_bits r) ≡ Ok (2 ^ zeros - 1 + tail, after)
ue_from r after zeros place tail is few there is_place is_tail is_after =
    rw (is_after, is_tail, is_place, ← take_later r (zeros + 1) zeros (omega arith), is) (ue_long (reader_bits r) (omega arith) (omega (arith, length-ahead r)))

-- a short codeword of ue as a number
number-word : (m : ℕ) (bits : List Bool) → leading bits + 1 + m ≤ length bits → number_of (take (leading bits + 1 + m) bits) ≡ 2 ^ m + number_of (take m (drop (leading bits + 1) bits))
unfolding leading
number-word m [] long = absurd (omega arith)
number-word m (true ∷ bits) long =
    let one : 0 + 1 + m ≡ suc m = omega arith in
    rw one (omega (arith, length-take-le m bits (omega arith), ap (λ k. 2 ^ k) (length-take-le m bits (omega arith))))
number-word m (false ∷ bits) long =
    let one : suc (leading bits) + 1 + m ≡ suc (leading bits + 1 + m) = omega arith in
    let next : suc (leading bits) + 1 ≡ suc (leading bits + 1) = omega arith in
    rw (one, next) (number-word m bits (omega arith))

-- what ue reads, from the next bits as a number
pub short_ue_from : (b after : Bits) (count next zeros shift : ℕ) → count ≡ min (length b.ahead) 32 → next ≡ number_of (take count b.ahead) → zeros ≡ min (leading b.ahead) 32 →
    2 * zeros + 1 ≤ count → shift ≡ count - (2 * zeros + 1) → after ≡ passed b (2 * zeros + 1) →
    (1 ≤ next / 2 ^ shift) × (ue b ≡ Ok (next / 2 ^ shift - 1, after))
short_ue_from b after count next zeros shift is_count is_next is_zeros short is_shift is_after =
    let n = leading b.ahead in
    let same : zeros ≡ n = omega arith in
    let long : length (take count b.ahead) ≡ count = length-take-le count b.ahead (omega arith) in
    let all : 2 * n + 1 ≡ n + 1 + n = omega arith in
    let word : next / 2 ^ shift ≡ 2 ^ n + number_of (take n (drop (n + 1) b.ahead)) =
    ap (λ v. v / 2 ^ shift) is_next ∙ ap (λ k. number_of (take count b.ahead) / 2 ^ k) (omega (arith, long))
    ∙ number-take (2 * n + 1) (take count b.ahead)
    ∙ ap number_of (take-take (2 * n + 1) count b.ahead (omega arith)) ∙ ap (λ k. number_of (take k b.ahead)) all ∙ number-word n b.ahead (omega arith) in (
      omega (arith, word, pow_pos n),
      rw (is_after, same) (ue_long b (omega arith) (omega arith) ∙ ap (λ v. Ok (v, passed b (2 * n + 1))) (omega (arith, word, pow_pos n))),
    )

-- what peek shows
pub peek_fits : (count there value : ℕ) → there ≤ count → count ≤ 32 → value < 2 ^ there →
    (value * 2 ^ (count - there) % 2 ^ 64 ≡ value * 2 ^ (count - there)) × (value * 2 ^ (count - there) < 2 ^ count) × (value * 2 ^ (count - there) < 2 ^ 32)
peek_fits count there value some few small =
    let width : there + (count - there) ≡ count = omega arith in
    let below : value * 2 ^ (count - there) < 2 ^ count = omega (arith, mul-lt-mul_of_pos_right small (pow_pos (count - there)), pow-add 2 there (count - there), ap (λ k. 2 ^ k) width) in
    (shl_whole value there (count - there) 64 small (omega arith), below, pow_lt_trans (value * 2 ^ (count - there)) count 32 below few)

padded : (bits : List Bool) (count there : ℕ) → there ≡ min (length bits) count → take count (bits ++ replicate count false) ≡ take there bits ++ replicate (count - there) false
padded bits count there is = elim (cases_lt (length bits) count) [
  | inl less ↦
      let all : there ≡ length bits = omega arith in
      let sum : count ≡ length bits + (count - there) = omega arith in
      let front : take there bits ≡ bits = ap (λ k. take k bits) all ∙ sym (ap (take (length bits)) (append-nil bits)) ∙ take-append_seam bits [] in
      ap (λ k. take k (bits ++ replicate count false)) sum ∙ take-append-add bits (replicate count false) (count - there)
      ∙ ap (λ t. bits ++ t) (take-replicate (count - there) count false (omega arith)) ∙ ap (λ t. t ++ replicate (count - there) false) (sym front)
  | inr more ↦
      let all : there ≡ count = omega arith in
      let none : count - there ≡ 0 = omega arith in
      take-append-le count bits (replicate count false) more ∙ ap (λ k. take k bits) (sym all) ∙ sym (append-nil (take there bits)) ∙ ap (λ k. take there bits ++ replicate k false) (sym none)
]

pub peek_from : (bits : List Bool) (count there value : ℕ) → there ≡ min (length bits) count → value ≡ number_of (take there bits) →
    bits_of count (value * 2 ^ (count - there)) ≡ take count (bits ++ replicate count false)
peek_from bits count there value is_there is =
    let front = take there bits in
    let zeros = replicate (count - there) false in
    let len : length zeros ≡ count - there = length-replicate (count - there) false in
    let long : length front ≡ there = length-take-le there bits (omega arith) in
    let same : value * 2 ^ (count - there) ≡ number_of (front ++ zeros) = ap (λ v. v * 2 ^ (count - there)) is ∙ ap (λ k. number_of front * 2 ^ k) (sym len) ∙ omega (arith, number-append front zeros, number-zeros (count - there)) in
    ap (bits_of count) same ∙ bits_of-number count (front ++ zeros) (length-append front zeros ∙ omega (arith, len, long)) ∙ sym (padded bits count there is_there)

-- bits of which enough stand ahead
pub peek_window : (r : BitReader) (count value : ℕ) → count ≤ left_of r → count ≤ 32 → value ≡ number_of (take count (drop (position_of r) (byte_bits r.bytes.now))) →
    bits_of count value ≡ take count ((reader_bits r).ahead ++ replicate count false)
peek_window r count value there few is = search (rules, length-ahead, take-ahead, bits_of-number, length-take-le, take-append-le)

-- ---- zeros and a number behind the 1 after them, by one look

pub zeros_value : (r : BitReader) (bits zeros count : ℕ) → 64 ≤ left_of r → bits ≡ number_of (take 32 (drop (position_of r) (byte_bits r.bytes.now))) →
    zeros ≡ count_leading_zeros 32 bits → zeros ≤ 15 → count ≤ 16 →
    let field = bits * 2 ^ (33 + zeros) % 2 ^ 64 / 2 / 2 ^ (63 - count) in
    (zeros ≡ leading (reader_bits r).ahead) × (field ≡ number_of (take count (drop (zeros + 1) (reader_bits r).ahead))) × (field < 2 ^ count) × (field < 2 ^ 32)
zeros_value r bits zeros count there is is_zeros few narrow =
    let ahead = (reader_bits r).ahead in
    let long : 32 ≤ length ahead = omega (arith, length-ahead r) in
    let front : bits ≡ number_of (take 32 ahead) = is ∙ ap number_of (sym (take-ahead r 32 (omega arith))) in
    let low : 64 - (33 + zeros) - count ≡ 32 - (zeros + 1) - count = omega arith in
    let field : bits * 2 ^ (33 + zeros) % 2 ^ 64 / 2 / 2 ^ (63 - count) ≡ number_of (take count (drop (zeros + 1) ahead)) =
    field64_is bits (33 + zeros) count (omega arith) (omega arith)
    ∙ ap (λ k. bits / 2 ^ k % 2 ^ count) low
    ∙ ap (λ v. v / 2 ^ (32 - (zeros + 1) - count) % 2 ^ count) front
    ∙ number-part (zeros + 1) count 32 (take 32 ahead) (length-take-le 32 ahead long) (omega arith)
    ∙ ap number_of (take_front ahead (zeros + 1) count 32 (omega arith)) in
    let below = number-take_lt count (drop (zeros + 1) ahead) in
    (omega (arith, (leading_from ahead 32 bits (omega arith) front).1), field, omega (arith, field, below), omega (arith, field, pow_lt_trans _ count 32 below (omega arith)))

-- what u reads after some bits
pub u_after : (b after : Bits) (first count value : ℕ) → first + count ≤ length b.ahead → value ≡ number_of (take count (drop first b.ahead)) → after ≡ passed b (first + count) →
    u count (passed b first) ≡ Ok (value, after)
u_after b after first count value there is is_after =
    let place : b.position + first + count ≡ b.position + (first + count) = omega arith in
    let rest : drop count (drop first b.ahead) ≡ drop (first + count) b.ahead = drop-drop count first b.ahead in
    rw (u_long count (passed b first) (omega (arith, length-drop first b.ahead)), place, rest, is_after, is) refl

-- ---- the functions that read a code, against its codewords: u

word_u : (n : ℕ) (word : List Bool) → length word ≡ n → IsU n word (number_of word)
word_u n word len = (below_width n word len, sym (bits_of-number n word len))

u_cut : (n : ℕ) (b : Bits) → length b.ahead < n → IsCutShort (IsU n) b
u_cut n b short =
    let others = replicate (n - length b.ahead - 1) false in
    record {
      value = number_of (b.ahead ++ false ∷ others);
      next = false;
      others = others;
      is_word = word_u n (b.ahead ++ false ∷ others) (length-append b.ahead (false ∷ others) ∙ omega (arith, length-replicate (n - length b.ahead - 1) false));
    }

u_takes : (n : ℕ) (b : Bits) → n ≤ length b.ahead → Takes (IsU n) b (number_of (take n b.ahead)) (passed b n)
u_takes n b long = search (rules, length-take-le, word_u, take-append-drop)

pub u_reads : (n : ℕ) (otherwise : Fault) (b : Bits) → IsReadBy (IsU n) otherwise b (u n b)
u_reads n otherwise b = search (rules, cases_lt, u_short, u_cut, u_long, u_takes)

no_more : (word more : List Bool) → length (word ++ more) ≡ length word → more ≡ []
no_more word [] same = refl
no_more word (m ∷ more) same = absurd (omega (arith, length-append word (m ∷ more)))

pub u_free : (n : ℕ) → IsPrefixFree (IsU n)
u_free n word more value other first second =
    no_more word more (ap length second.1 ∙ length-bits_of n other ∙ sym (ap length first.1 ∙ length-bits_of n value))

-- ---- ue

leading_one : (n : ℕ) (rest : List Bool) → leading (replicate n false ++ true ∷ rest) ≡ n
unfolding leading
leading_one zero rest = refl
leading_one (suc n) rest = omega (arith, leading_one n rest)

leading-append_le : (bits rest : List Bool) → leading bits ≤ leading (bits ++ rest)
unfolding leading
leading-append_le [] rest = omega arith
leading-append_le (true ∷ bits) rest = omega arith
leading-append_le (false ∷ bits) rest = omega (arith, leading-append_le bits rest)

-- bits are their zeros, and a 1 or nothing
split_at_one : (bits : List Bool) → leading bits < length bits → bits ≡ replicate (leading bits) false ++ true ∷ drop (suc (leading bits)) bits
unfolding leading
split_at_one [] some = absurd (omega arith)
split_at_one (true ∷ bits) some = refl
split_at_one (false ∷ bits) some = ap (λ t. false ∷ t) (split_at_one bits (omega arith))

all_zeros : (bits : List Bool) → length bits ≤ leading bits → bits ≡ replicate (length bits) false
unfolding leading
all_zeros [] none = refl
all_zeros (true ∷ bits) none = absurd (omega arith)
all_zeros (false ∷ bits) none = ap (λ t. false ∷ t) (all_zeros bits (omega arith))

-- a codeword of ue has as many bits as its zeros say
ue_shape : (word rest : List Bool) (value : ℕ) → IsUe word value → (leading (word ++ rest) ≤ 31) × (length word ≡ 2 * leading (word ++ rest) + 1)
ue_shape word rest value is = search (rules, length-bits_of, append_assoc, leading_one, length-append, length-replicate)

-- n zeros, a 1 and n bits
word_ue : (n : ℕ) (tail : List Bool) → n ≤ 31 → length tail ≡ n → IsUe (replicate n false ++ true ∷ tail) (2 ^ n - 1 + number_of tail)
word_ue n tail few len =
    (n, number_of tail, few, below_width n tail len, ap (λ t. replicate n false ++ true ∷ t) (sym (bits_of-number n tail len)), omega (arith, pow_pos n))

ue_never_cut : (b : Bits) → 31 < leading b.ahead → ¬ IsCutShort IsUe b
ue_never_cut b long cut =
    let shape = ue_shape (b.ahead ++ cut.next ∷ cut.others) [] cut.value cut.is_word in
    omega (arith, shape.0, ap leading (append-nil (b.ahead ++ cut.next ∷ cut.others)), leading-append_le b.ahead (cut.next ∷ cut.others))

ue_never_taken : (b : Bits) → 31 < leading b.ahead → (value : ℕ) (left : Bits) → ¬ Takes IsUe b value left
ue_never_taken b long value left taken =
    let shape = ue_shape taken.word left.ahead value taken.is_word in
    omega (arith, shape.0, ap leading taken.ahead)

ue_cut : (b : Bits) → leading b.ahead ≤ 31 → length b.ahead < 2 * leading b.ahead + 1 → IsCutShort IsUe b
ue_cut b few short = elim (cases_lt (leading b.ahead) (length b.ahead)) [
  | inl some ↦
      let n = leading b.ahead in
      let tail = drop (suc n) b.ahead in
      let others = replicate (n - length tail - 1) false in
      let len : length (tail ++ false ∷ others) ≡ n = length-append tail (false ∷ others) ∙ omega (arith, length-replicate (n - length tail - 1) false, length-drop (suc n) b.ahead) in
      let same : b.ahead ++ false ∷ others ≡ replicate n false ++ true ∷ (tail ++ false ∷ others) =
      ap (λ t. t ++ false ∷ others) (split_at_one b.ahead some) ∙ append_assoc (replicate n false) (true ∷ tail) (false ∷ others) in
      record { value = 2 ^ n - 1 + number_of (tail ++ false ∷ others); next = false; others = others; is_word = rw same (word_ue n (tail ++ false ∷ others) few len) }
  | inr none ↦
      let n = length b.ahead in
      let others = replicate n false in
      let same : b.ahead ++ true ∷ others ≡ replicate n false ++ true ∷ others = ap (λ t. t ++ true ∷ others) (all_zeros b.ahead none) in
      record { value = 2 ^ n - 1 + number_of others; next = true; others = others; is_word = rw same (word_ue n others (omega arith) (length-replicate n false)) }
]

ue_takes : (b : Bits) → leading b.ahead ≤ 31 → 2 * leading b.ahead + 1 ≤ length b.ahead →
    Takes IsUe b (2 ^ leading b.ahead - 1 + number_of (take (leading b.ahead) (drop (leading b.ahead + 1) b.ahead))) (passed b (2 * leading b.ahead + 1))
ue_takes b few long =
    let n = leading b.ahead in
    let later = drop (n + 1) b.ahead in
    let tail = take n later in
    let one : suc n ≡ n + 1 = omega arith in
    let len : length tail ≡ n = length-take-le n later (omega (arith, length-drop (n + 1) b.ahead)) in
    let rest : drop n later ≡ drop (2 * n + 1) b.ahead = drop-drop n (n + 1) b.ahead ∙ ap (λ k. drop k b.ahead) (omega arith) in
    record {
      word = replicate n false ++ true ∷ tail;
      is_word = word_ue n tail few len;
      ahead = split_at_one b.ahead (omega arith) ∙ ap (λ k. replicate n false ++ true ∷ drop k b.ahead) one
          ∙ ap (λ t. replicate n false ++ true ∷ t) (sym (take-append-drop n later) ∙ ap (λ t. tail ++ t) rest)
          ∙ sym (append_assoc (replicate n false) (true ∷ tail) (drop (2 * n + 1) b.ahead));
      position = ap (λ k. b.position + k) (sym (length-append (replicate n false) (true ∷ tail) ∙ omega (arith, len, length-replicate n false)));
    }

pub ue_reads : (b : Bits) → IsReadBy IsUe CodeTooLong b (ue b)
ue_reads b = elim (cases_lt 31 (leading b.ahead)) [
  | inl long ↦ rw (ue_too_long b long) (refl, ue_never_cut b long, ue_never_taken b long)
  | inr few ↦ elim (cases_lt (length b.ahead) (2 * leading b.ahead + 1)) [
    | inl short ↦ rw (ue_short b few short) (ue_cut b few short)
    | inr enough ↦ rw (ue_long b few enough) (ue_takes b few enough)
  ]
]

pub ue_free : IsPrefixFree IsUe
ue_free word more value other first second =
    let short = ue_shape word more value first in
    let long = ue_shape (word ++ more) [] other second in
    no_more word more (omega (arith, short.1, long.1, ap leading (append-nil (word ++ more))))

-- ---- se

se_of_ue : (b : Bits) (r : Result (ℕ × Bits) Fault) → IsReadBy IsUe CodeTooLong b r → IsReadBy IsSe CodeTooLong b (elim r [ Ok k ↦ Ok (signed_value k.0, k.1) | Err f ↦ Err f ])
se_of_ue b (Ok k) taken = record { word = taken.word; is_word = (k.0, taken.is_word, refl); ahead = taken.ahead; position = taken.position }
se_of_ue b (Err faults.Truncated) cut = record { value = signed_value cut.value; next = cut.next; others = cut.others; is_word = (cut.value, cut.is_word, refl) }
se_of_ue b (Err f) never = (
  never.0,
  (λ cut. never.1 (record { value = (cut.is_word).0; next = cut.next; others = cut.others; is_word = (cut.is_word).1 })),
  (λ value left taken. never.2 (taken.is_word).0 left (record { word = taken.word; is_word = (taken.is_word).1; ahead = taken.ahead; position = taken.position })),
)

pub se_reads : (b : Bits) → IsReadBy IsSe CodeTooLong b (se b)
se_reads b = se_of_ue b (ue b) (ue_reads b)

pub se_free : IsPrefixFree IsSe
se_free word more value other first second = ue_free word more first.0 second.0 first.1 second.1

-- ---- te

te_bit : (position : ℕ) (bits : List Bool) → IsReadBy (IsTe 1) CodeTooLong (record { position = position; ahead = bits }) (te 1 (record { position = position; ahead = bits }))
te_bit position [] = record { value = 0; next = true; others = []; is_word = (omega arith, refl) }
te_bit position (true ∷ bits) = record { word = true ∷ []; is_word = (omega arith, refl); ahead = refl; position = refl }
te_bit position (false ∷ bits) = record { word = false ∷ []; is_word = (omega arith, refl); ahead = refl; position = refl }

te_wide : (range : ℕ) (b : Bits) → te (suc (suc range)) b ≡ ue b
te_wide range b =
    let more : eqb (suc (suc range)) 1 ≡ false = ne_eqb (suc (suc range)) 1 (λ same. omega (arith, same)) in
    rw (te, more) refl

pub te_reads : (range : ℕ) → 1 ≤ range → (b : Bits) → IsReadBy (IsTe range) CodeTooLong b (te range b)
te_reads zero some b = absurd (omega arith)
te_reads (suc zero) some b = te_bit b.position b.ahead
te_reads (suc (suc range)) some b = rw (te_wide range b) (ue_reads b)

pub te_free : (range : ℕ) → IsPrefixFree (IsTe range)
te_free zero word more value other first second = absurd first
te_free (suc zero) word more value other first second = no_more word more (ap length second.1 ∙ sym (ap length first.1))
te_free (suc (suc range)) word more value other first second = ue_free word more value other first second

-- ---- what holds of each value that a part of the syntax gives, and that nothing is passed but what stood ahead: parts in turn

-- of an answer that is no fault the value, and the bits that are left
abbrev pub value : {A : Type 0} → A → Result (A × Bits) Fault → A
value x (Ok r) = r.0
value x (Err f) = x

-- the bits that are left; after a fault those before
abbrev pub left : {A : Type 0} → Bits → Result (A × Bits) Fault → Bits
left b (Ok r) = r.1
left b (Err f) = b

bind-by : {A B : Type 0} (part : Read A) (after : A → Read B) (r : Result (A × Bits) Fault) (b next : Bits) (y : B) → part b ≡ r → (part >>= after) b ≡ Ok (y, next)
    → (x : A) × (mid : Bits) × (part b ≡ Ok (x, mid)) × (after x mid ≡ Ok (y, next))
bind-by part after (Ok r) b next y e f = (r.0, r.1, e, rw e at f)
bind-by part after (Err fault) b next y e f = let wrong = rw e at f in cc

-- what stands between two parts
pub bind-ok : {A B : Type 0} (part : Read A) (after : A → Read B) (b next : Bits) (y : B) → (part >>= after) b ≡ Ok (y, next)
    → (x : A) × (mid : Bits) × (part b ≡ Ok (x, mid)) × (after x mid ≡ Ok (y, next))
bind-ok part after b next y f = bind-by part after (part b) b next y refl f

-- ---- what the value is

-- P holds of each value that the part can give
abbrev pub Gives : {A : Type 0} → (A → Type 0) → Read A → Type 0
Gives {A} P part = (b next : Bits) (x : A) → part b ≡ Ok (x, next) → P x

pub gives-any : {A : Type 0} (part : Read A) → Gives (λ _. Unit {0}) part
gives-any part b next x e = tt

pub gives-bind : {A B : Type 0} (P : A → Type 0) (Q : B → Type 0) (part : Read A) (after : A → Read B)
    → Gives P part → ((x : A) → P x → Gives Q (after x)) → Gives Q (part >>= after)
gives-bind P Q part after g h b next y f =
    let between = bind-ok part after b next y f in
    h between.0 (g b between.1 between.0 between.2) between.1 next y between.3

-- after a part of which nothing is asked
pub gives-then : {A B : Type 0} (Q : B → Type 0) (part : Read A) (after : A → Read B) → ((x : A) → Gives Q (after x)) → Gives Q (part >>= after)
gives-then Q part after h = gives-bind (λ _. Unit {0}) Q part after (gives-any part) (λ x _. h x)

pub gives-check : {B : Type 0} (Q : B → Type 0) (test : Bool) (fault : Fault) (after : Read B)
    → (test ≡ true → Gives Q after) → Gives Q (check test fault >> after)
gives-check Q true fault after h b next y f = h refl b next y f
gives-check Q false fault after h b next y f = cc

pub gives-give : {A : Type 0} (P : A → Type 0) (x : A) → P x → Gives P (give x)
gives-give P x p b next y e = subst P (ap (value x) e) p

pub gives-where_set : {A : Type 0} (P : A → Type 0) (set : Bool) (part : Read A) → Gives P part → Gives (λ o. IfSome o P) (where_set set part)
gives-where_set P true part g = gives-bind P (λ o. IfSome o P) part _ g (λ x p. gives-give (λ o. IfSome o P) (Some x) p)
gives-where_set P false part g = gives-give (λ o. IfSome o P) None tt

pub gives-times : {A : Type 0} (n : ℕ) (part : Read A) → Gives (λ xs. length xs ≡ n) (times n part)
gives-times zero part = gives-give (λ xs. length xs ≡ 0) [] refl
gives-times (suc n) part =
    gives-bind (λ _. Unit {0}) (λ xs. length xs ≡ suc n) part _ (gives-any part) (λ x _.
    gives-bind (λ xs. length xs ≡ n) (λ xs. length xs ≡ suc n) (times n part) _ (gives-times n part) (λ xs long.
    gives-give (λ xs. length xs ≡ suc n) (x ∷ xs) (ap suc long)))

pub gives-each : {A : Type 0} (P : A → Type 0) (n : ℕ) (part : Read A) → Gives P part → Gives (All P) (times n part)
gives-each P zero part g = gives-give (All P) [] (All-nil P)
gives-each P (suc n) part g =
    gives-bind P (All P) part _ g (λ x p.
    gives-bind (All P) (All P) (times n part) _ (gives-each P n part g) (λ xs ps.
    gives-give (All P) (x ∷ xs) (All-cons P x xs p ps)))

pub gives-ue_to : (top : ℕ) → Gives (λ v. v ≤ top) (ue_to top)
gives-ue_to top = search (rules, gives-bind, gives-any, gives-check, nat_le, gives-give)

pub gives-u_to : (n top : ℕ) → Gives (λ v. v ≤ top) (u_to n top)
gives-u_to n top = search (rules, gives-bind, gives-any, gives-check, nat_le, gives-give)

-- from `low` to `high`, both included
pub record IsFrom (low high v : ℤ) : Type 0 where
  pub least : low ≤ℤ v
  pub most : v ≤ℤ high

pub gives-se_within : (low high : ℤ) → Gives (IsFrom low high) (se_within low high)
gives-se_within low high =
    gives-bind (λ _. Unit {0}) (IsFrom low high) se _ (gives-any se) (λ v _.
    gives-check (IsFrom low high) _ _ _ (λ h.
    gives-give (IsFrom low high) v (record { least = grind (arith, ints); most = grind (arith, ints) })))

-- ---- reading a part so many times by a loop: what its first n turns read, and one turn more

-- one turn and then the others
pub one_first : {A : Type 0} (part : Read A) (n : ℕ) (b mid after : Bits) (x : A) (xs : List A) → part b ≡ Ok (x, mid) → times n part mid ≡ Ok (xs, after) → times (suc n) part b ≡ Ok (x ∷ xs, after)
one_first part n b mid after x xs first others = rw (first, others) refl

-- a fault after one turn
pub fault_later : {A : Type 0} (part : Read A) (n : ℕ) (b mid : Bits) (x : A) (f : Fault) → part b ≡ Ok (x, mid) → times n part mid ≡ Err f → times (suc n) part b ≡ Err f
fault_later part n b mid x f first others = rw (first, others) refl

-- one turn more
pub times_more : {A : Type 0} (part : Read A) (n : ℕ) (b mid after : Bits) (xs : List A) (x : A) →
    times n part b ≡ Ok (xs, mid) → part mid ≡ Ok (x, after) → times (n + 1) part b ≡ Ok (xs ++ x ∷ [], after)
times_more part zero b mid after xs x so_far here = rw (← ap (value []) so_far, ap (left b) so_far, here) refl
times_more part (suc n) b mid after xs x so_far here =
    let one : suc n + 1 ≡ suc (n + 1) = omega arith in
    let first = bind-ok part (λ y. times n part >>= λ ys. give (y ∷ ys)) b mid xs so_far in
    let rest = bind-ok (times n part) (λ ys. give (first.0 ∷ ys)) first.1 mid xs first.3 in
    let all : first.0 ∷ rest.0 ≡ xs = ap (value []) rest.3 in
    let same : rest.1 ≡ mid = ap (left b) rest.3 in
    let more = times_more part n first.1 rest.1 after rest.0 x rest.2 (ap part same ∙ here) in
    ap (λ k. times k part b) one ∙ one_first part (n + 1) b first.1 after first.0 (rest.0 ++ x ∷ []) first.2 more ∙ ap (λ t. Ok (t ++ x ∷ [], after)) all

-- a fault at one turn is a fault of all
pub times_fault : {A : Type 0} (part : Read A) (total n : ℕ) (b mid : Bits) (xs : List A) (f : Fault) →
    n < total → times n part b ≡ Ok (xs, mid) → part mid ≡ Err f → times total part b ≡ Err f
times_fault part zero n b mid xs f less so_far here = absurd (omega arith)
times_fault part (suc total) zero b mid xs f less so_far here = rw (ap (left b) so_far, here) refl
times_fault part (suc total) (suc n) b mid xs f less so_far here =
    let first = bind-ok part (λ y. times n part >>= λ ys. give (y ∷ ys)) b mid xs so_far in
    let rest = bind-ok (times n part) (λ ys. give (first.0 ∷ ys)) first.1 mid xs first.3 in
    let same : rest.1 ≡ mid = ap (left b) rest.3 in
    let more = times_fault part total n first.1 rest.1 rest.0 f (omega arith) rest.2 (ap part same ∙ here) in
    rw (first.2, more) refl

-- ---- reading whole bytes

pub times_short : (n : ℕ) (b : Bits) → length b.ahead < 8 * n → times n (u 8) b ≡ Err Truncated
times_short zero b short = absurd (omega arith)
times_short (suc n) b short = elim (cases_lt (length b.ahead) 8) [
  | inl less ↦ times_fault (u 8) (suc n) 0 b b [] Truncated (omega arith) refl (u_short 8 b less)
  | inr more ↦
      fault_later (u 8) n b (passed b 8) (number_of (take 8 b.ahead)) Truncated (u_long 8 b more)
      (times_short n (passed b 8) (omega (arith, length-drop 8 b.ahead)))
]

-- one byte in front
one_byte : (x position : ℕ) (rest : List Bool) → x < 256 →
    u 8 (record { position = position; ahead = bits_of 8 x ++ rest }) ≡ Ok (x, record { position = position + 8; ahead = rest })
one_byte x position rest small = ap (λ v. Ok (v, record { position = position + 8; ahead = rest })) (number-bits_of 8 x ∙ mod-eq_of_lt small)

-- bytes in front
pub times_bytes : (xs : List ℕ) (position next : ℕ) (rest : List Bool) → ((k : ℕ) → get_or xs k 0 < 256) → next ≡ position + 8 * length xs →
    times (length xs) (u 8) (record { position = position; ahead = byte_bits xs ++ rest }) ≡ Ok (xs, record { position = next; ahead = rest })
times_bytes [] position next rest small is = ap (λ n. Ok ([], record { position = n; ahead = rest })) (omega arith)
times_bytes (x ∷ xs) position next rest small is =
    ap (λ bits. times (suc (length xs)) (u 8) (record { position = position; ahead = bits })) (append_assoc (bits_of 8 x) (byte_bits xs) rest)
    ∙ one_first (u 8) (length xs) (record { position = position; ahead = bits_of 8 x ++ (byte_bits xs ++ rest) }) (record { position = position + 8; ahead = byte_bits xs ++ rest }) (record { position = next; ahead = rest }) x xs
    (one_byte x position (byte_bits xs ++ rest) (small 0))
    (times_bytes xs (position + 8) next rest (λ k. small (suc k)) (omega arith))

whole_position : (r : BitReader) → (reader_bits r).position % 8 ≡ 0 → 0 < left_of r → position_of r ≡ 8 * r.byte
unfolding reader_bits
whole_position r aligned some = omega (arith, none_beyond r some, r.narrow)

-- the bytes of the RBSP from an aligned position on
pub bytes_from : (r : BitReader) (count : ℕ) (xs : List ℕ) (after : Bits) → (reader_bits r).position % 8 ≡ 0 → 0 < count → 8 * count ≤ left_of r → xs ≡ take count (drop r.byte r.bytes.now) → length xs ≡ count →
    ((k : ℕ) → get_or xs k 0 < 256) → after ≡ passed (reader_bits r) (8 * count) → times count (u 8) (reader_bits r) ≡ Ok (xs, after)
bytes_from r count xs after aligned some there part len small is =
    let first = r.byte in
    let bytes = r.bytes.now in
    let ahead = (reader_bits r).ahead in
    let place : position_of r ≡ 8 * first = whole_position r aligned (omega arith) in
    let front : take (8 * count) ahead ≡ byte_bits xs =
    take-ahead r (8 * count) there ∙ ap (λ n. take (8 * count) (drop n (byte_bits bytes))) place ∙ part_bits bytes first count (omega (arith, r.inside)) ∙ ap byte_bits (sym part) in
    let parts : ahead ≡ byte_bits xs ++ drop (8 * count) ahead = sym (take-append-drop (8 * count) ahead) ∙ ap (λ bits. bits ++ drop (8 * count) ahead) front in
    ap (λ n. times n (u 8) (reader_bits r)) (sym len)
    ∙ ap (λ (bits : List Bool). times (length xs) (u 8) (record { position = (reader_bits r).position; ahead = bits })) parts
    ∙ times_bytes xs (reader_bits r).position ((reader_bits r).position + 8 * count) (drop (8 * count) ahead) small (omega (arith, len))
    ∙ ap (λ b. Ok (xs, b)) (sym is)

pub skipped_to : (n : ℕ) (b after : Bits) → skip n b ≡ Ok (tt, after) → after.position ≡ b.position + n
skipped_to n b after is = search (rules, cases_lt, skip_short, skip_long)

pub aligned_after : (r : Result (Unit {0}) Fault) (n : ℕ) (old new : BitReader) → n ≡ (8 - (reader_bits old).position % 8) % 8 → Reads r (skip n) old new → IfOk r (λ _. (reader_bits new).position % 8 ≡ 0)
aligned_after (Ok done) n old new is read = let there = skipped_to n (reader_bits old) (reader_bits new) read.0 in omega arith
aligned_after (Err f) n old new is read = tt

-- what the functions of the reader say of their fault, and of the bits that are left
pub ruleset reading = (length-ahead, skip_short, skip_long, u_short, u_from, before_many, before_short, times_short, ue_too_long, ue_short)

-- ---- worked examples of the codes

abbrev value_of : {A : Type 0} → Read A → List ℕ → Result A Fault
value_of part bytes = elim (part (start bytes)) [ Ok r ↦ Ok r.0 | Err f ↦ Err f ]

ue_too_long_row : value_of ue (0 ∷ 0 ∷ 0 ∷ 0 ∷ 0x80 ∷ 0x80 ∷ []) ≡ Err faults.CodeTooLong
ue_too_long_row = refl

ue_truncated : value_of ue (0 ∷ 0x80 ∷ []) ≡ Err faults.Truncated
ue_truncated = refl

ue_longest : value_of ue (0 ∷ 0 ∷ 0 ∷ 1 ∷ 0 ∷ 0 ∷ 0 ∷ 1 ∷ []) ≡ Ok 2147483647
ue_longest = refl
