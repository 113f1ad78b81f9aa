-- CRC-32 byte by byte: what stands above the lowest byte of the register moves down by a byte, and what the lowest one leaves comes in.
use Rattle.std.proofs.Common.{◌≡◌, ℕ, ◌+◌, ◌*◌, ◌/◌, ◌%◌, ◌<◌, Bool, true, false, eqb, refl, sym, ap, ◌∙◌, arith}
use Rattle.std.specs.Prelude.{if◌then◌else◌, bit_xor}
use Rattle.std.specs.Int.Bits.{xor_assoc, xor_shifted, xor_zero_l, xor_zero_r}
use Rattle.std.proofs.lemmas.Nat.{xor_comm, xor_mod, xor_shr}
use Rattle.avc_png.specs.Checksums.{after_bit, after_byte, polynomial}

by_lowest : (lowest : Bool) (m h : ℕ) → (if lowest then bit_xor (bit_xor m h) polynomial else bit_xor m h) ≡ bit_xor m (if lowest then bit_xor h polynomial else h)
by_lowest true m h = xor_assoc m h polynomial
by_lowest false m h = refl

-- one bit: what stands above it moves down
below : (m n l : ℕ) → n ≡ m * 2 → after_bit (bit_xor n l) ≡ bit_xor m (after_bit l)
unfolding after_bit
below m n l is =
    let even : n % 2 ≡ 0 = omega (arith, is) in
    let half : n / 2 ≡ m = omega (arith, is) in
    let lowest : bit_xor n l % 2 ≡ l % 2 = xor_mod n l 1 ∙ ap (λ z. bit_xor z (l % 2)) even ∙ xor_zero_l (l % 2) in
    let others : bit_xor n l / 2 ≡ bit_xor m (l / 2) = xor_shr n l 1 ∙ ap (λ z. bit_xor z (l / 2)) half in
    rw (lowest, others) (by_lowest (eqb (l % 2) 1) m (l / 2))

-- eight bits
abbrev after_bits : ℕ → ℕ
after_bits r = after_bit (after_bit (after_bit (after_bit (after_bit (after_bit (after_bit (after_bit r)))))))

byte_below : (h l : ℕ) → after_bits (bit_xor (h * 256) l) ≡ bit_xor h (after_bits l)
byte_below h l =
    let f = after_bit in
    ap (λ r. f (f (f (f (f (f (f r))))))) (below (h * 128) (h * 256) l (omega arith))
    ∙ ap (λ r. f (f (f (f (f (f r)))))) (below (h * 64) (h * 128) (f l) (omega arith))
    ∙ ap (λ r. f (f (f (f (f r))))) (below (h * 32) (h * 64) (f (f l)) (omega arith))
    ∙ ap (λ r. f (f (f (f r)))) (below (h * 16) (h * 32) (f (f (f l))) (omega arith))
    ∙ ap (λ r. f (f (f r))) (below (h * 8) (h * 16) (f (f (f (f l)))) (omega arith))
    ∙ ap (λ r. f (f r)) (below (h * 4) (h * 8) (f (f (f (f (f l))))) (omega arith))
    ∙ ap (λ r. f r) (below (h * 2) (h * 4) (f (f (f (f (f (f l)))))) (omega arith))
    ∙ below h (h * 2) (f (f (f (f (f (f (f l))))))) (omega arith)

-- what a byte leaves in an empty register
pub entry_is : (byte : ℕ) → after_bits byte ≡ after_byte 0 byte
entry_is byte = ap after_bits (sym (xor_zero_l byte))

pub by_table : (before byte entry : ℕ) → byte < 256 → entry ≡ after_byte 0 (bit_xor before byte % 256) → bit_xor entry (before / 256) ≡ after_byte before byte
by_table before byte entry small is =
    let x = bit_xor before byte in
    let low : x % 256 < 256 = omega arith in
    let both : x / 256 * 256 + x % 256 ≡ x = omega arith in
    let none : byte / 256 ≡ 0 = omega (arith, small) in
    let parts : x ≡ bit_xor (x / 256 * 256) (x % 256) = sym (xor_shifted (x / 256) 8 (x % 256) low ∙ both) in
    let high : x / 256 ≡ before / 256 = xor_shr before byte 8 ∙ ap (λ z. bit_xor (before / 256) z) none ∙ xor_zero_r (before / 256) in
    let whole : after_bits x ≡ bit_xor (before / 256) (after_bits (x % 256)) =
    ap after_bits parts ∙ byte_below (x / 256) (x % 256) ∙ ap (λ h. bit_xor h (after_bits (x % 256))) high in
    ap (λ e. bit_xor e (before / 256)) (is ∙ sym (entry_is (x % 256))) ∙ xor_comm (after_bits (x % 256)) (before / 256) ∙ sym whole
