-- What a reader stands for.
use Rattle.std.specs.Prelude.{◌≡◌, ℕ, suc, ◌+◌, ◌-◌, ◌*◌, ◌/◌, ◌^◌, ◌<◌, ◌≤◌, take, List, [], ◌∷◌}
use Rattle.std.specs.Prelude.{length, Bool, true, false, Result, Ok, Err, MatchResult, refl}
use Rattle.avc_types.specs.declared.fault.Fault.{Fault}
use Rattle.avc_bits.specs.Bits.{Bits, Read, at, number_of, passed}
use Rattle.avc_bits.specs.Codes.{u, ue, zeros_before_one}
use Rattle.avc_bits.specs.declared.reader.BitReader.{BitReader}
use Rattle.avc_bits.specs.declared.reader.UeWord.{UeWord}
use Rattle.avc_bits.specs.declared.reader.Window.{Window}

-- the RBSP that it reads
unfoldable pub reader_bytes : BitReader → List ℕ
reader_bytes r = r.bytes.now

-- how many bits it has passed
abbrev pub position_of : BitReader → ℕ
position_of r = 8 * r.byte + r.bit + r.beyond

-- how many bits it has ahead
abbrev pub left_of : BitReader → ℕ
left_of r = 8 * r.near + r.stop - (8 * r.byte + r.bit)

-- how many bits it has passed, and those that stand ahead before the stop bit
unfoldable pub reader_bits : BitReader → Bits
reader_bits r = at r.bytes.now (position_of r)

-- A reader is one of its RBSP at its position.
pub reader_at : (r : BitReader) → reader_bits r ≡ at (reader_bytes r) (reader_bits r).position
unfolding reader_bits reader_bytes
reader_at r = refl

-- What was read is what this part of the syntax reads from the bits ahead, and the reader goes on
-- after it.
abbrev pub Reads : {V : Type 0} → Result V Fault → Read V → BitReader → BitReader → Type 0
Reads result read old new = MatchResult result
    (λ value. (read (reader_bits old) ≡ Ok (value, reader_bits new)) ×
    (reader_bytes new ≡ reader_bytes old))
    (λ fault. read (reader_bits old) ≡ Err fault)

-- The window has the first 57 of the bits ahead.
pub record IsWindow (w : Window) (b : Bits) : Type 0 where
  pub long : 57 ≤ length b.ahead
  pub number : w.bits / 2 ^ 7 ≡ number_of (take 57 b.ahead)

-- how many zeros stand in front
unfoldable pub leading : List Bool → ℕ
leading [] = 0
leading (true ∷ bits) = 0
leading (false ∷ bits) = suc (leading bits)

-- So many zeros, a 1 and a number of so many bits were read.
pub record IsZerosAndBits (most count zeros value : ℕ) (old new : BitReader) : Type 0 where
  pub few : zeros ≤ most
  pub below : value < 2 ^ count
  pub zeros_read : (limit : ℕ) → (fault : Fault) → most ≤ limit →
      zeros_before_one limit fault (reader_bits old)
      ≡ Ok (zeros, passed (reader_bits old) (zeros + 1))
  pub value_read : u count (passed (reader_bits old) (zeros + 1)) ≡ Ok (value, reader_bits new)
  pub bytes : reader_bytes new ≡ reader_bytes old

-- The codeword of ue(v) that stands ahead (9.1).
pub record IsUeWord (word : UeWord) (b : Bits) : Type 0 where
  pub within : word.length ≤ length b.ahead
  pub below : word.number < 2 ^ 32 - 1
  pub read : ue b ≡ Ok (word.number, passed b word.length)
