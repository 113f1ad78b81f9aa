-- The codes of syntax elements (7.2, 9.1). A code is a set of codewords with their values. Where a
-- codeword is a prefix of the bits ahead, reading gives its value and what is left; where the bits
-- ahead are a proper prefix of a codeword, Truncated; else the code's own fault.
use Rattle.std.specs.Prelude.{◌≡◌, ℕ, zero, suc, ◌+◌, ◌-◌, ◌/◌, ◌%◌, ◌^◌, ◌<◌, ◌≤◌, ℤ, pos, neg_ℤ}
use Rattle.std.specs.Prelude.{int_le, Bool, true, false, ◌==◌, ◌&&◌, nat_le, nat_lt, if◌then◌else◌}
use Rattle.std.specs.Prelude.{List, [], ◌∷◌, ◌++◌, length, replicate, Option, Some, None, Result}
use Rattle.std.specs.Prelude.{Ok, Err}
use Rattle.std.specs.Option.{option_map}
use Rattle.avc_types.specs.declared.fault.Fault.{Fault}
use Rattle.avc_types.specs.declared.fault.Fault.TheVariants as faults
use Rattle.avc_bits.specs.Bits.{Bits, Read, ◌>>=◌, ◌>>◌, give, check, bits_of, number_of}

-- ---- what reading by a code means (7.2, 9.1)

-- A code: which bits are a codeword of which value.
abbrev pub Code : Type 0 → Type 1
Code A = List Bool → A → Type 0

-- From b the value is read and left is what is left.
pub record Takes {A : Type 0} (code : Code A) (b : Bits) (value : A) (left : Bits) : Type 0 where
  pub word : List Bool
  pub is_word : code word value
  pub ahead : b.ahead ≡ word ++ left.ahead
  pub position : left.position ≡ b.position + length word

-- The bits ahead are a proper prefix of a codeword: Truncated, by this decoder's rule.
pub record IsCutShort {A : Type 0} (code : Code A) (b : Bits) : Type 0 where
  pub value : A
  pub next : Bool
  pub others : List Bool
  pub is_word : code (b.ahead ++ next ∷ others) value

-- The answer r to reading by the code, whose own fault is `otherwise`; which fault it
-- is, is this decoder's rule.
abbrev pub IsReadBy : {A : Type 0} → Code A → Fault → Bits → Result (A × Bits) Fault → Type 0
IsReadBy code otherwise b (Ok r) = Takes code b r.0 r.1
IsReadBy code otherwise b (Err faults.Truncated) = IsCutShort code b
IsReadBy {A} code otherwise b (Err f) =
    (f ≡ otherwise) × (¬ IsCutShort code b) ×
    ((value : A) (left : Bits) → ¬ Takes code b value left)

-- No codeword is a proper prefix of a codeword.
abbrev pub IsPrefixFree : {A : Type 0} → Code A → Type 0
IsPrefixFree {A} code =
    (word more : List Bool) (value other : A) → code word value → code (word ++ more) other →
    more ≡ []

-- u(n) (7.2)
abbrev pub IsU : ℕ → Code ℕ
IsU n word value = (value < 2 ^ n) × (word ≡ bits_of n value)

-- ue(v) (9.1): n zeros, a 1 and n bits, n at most 31
abbrev pub IsUe : Code ℕ
IsUe word value =
    (n m : ℕ) × (n ≤ 31) × (m < 2 ^ n) × (word ≡ replicate n false ++ true ∷ bits_of n m) ×
    (value + 1 ≡ 2 ^ n + m)

-- the k-th of 0, 1, -1, 2, -2, .. (9.1.1, Table 9-3)
abbrev pub signed_value : ℕ → ℤ
signed_value k = if k % 2 == 1 then pos ((k + 1) / 2) else neg_ℤ (pos (k / 2))

-- se(v) (9.1.1): the number of ue(v) as the k-th of those
abbrev pub IsSe : Code ℤ
IsSe word value = (k : ℕ) × IsUe word k × (value ≡ signed_value k)

-- te(v) with a range of at least 1 (9.1): at range 1 one bit, inverted, else ue(v)
abbrev pub IsTe : ℕ → Code ℕ
IsTe zero word value = ⊥
IsTe (suc zero) word value = (value ≤ 1) × (word ≡ (value == 0) ∷ [])
IsTe (suc (suc range)) word value = IsUe word value

-- ---- reading, computed (7.2, 9.1)

-- the first n bits and the others, where there are so many
abbrev pub split : ℕ → List Bool → Option (List Bool × List Bool)
split zero bits = Some ([], bits)
split (suc n) [] = None
split (suc n) (b ∷ bits) = option_map (λ p. (b ∷ p.0, p.1)) (split n bits)

-- n bits (read_bits, 7.2)
abbrev pub bits : ℕ → Read (List Bool)
bits n b = taken (split n b.ahead)
  where
    taken : Option (List Bool × List Bool) → Result (List Bool × Bits) Fault
    taken None = Err faults.Truncated
    taken (Some p) = Ok (p.0, record { position = b.position + n; ahead = p.1 })

-- u(n) (7.2)
abbrev pub u : ℕ → Read ℕ
u n = bits n >>= λ word. give (number_of word)

-- u(1) as a flag (7.2)
abbrev pub flag : Read Bool
flag = u 1 >>= λ v. give (v == 1)

-- How many zeros stand before the next 1, at most limit; that 1 is read too. With one more zero,
-- the fault (leadingZeroBits, 9.1; level_prefix, 9.2.2.1).
abbrev pub zeros : ℕ → Fault → ℕ → List Bool → Result (ℕ × List Bool) Fault
zeros limit fault seen [] = Err faults.Truncated
zeros limit fault seen (true ∷ bits) = Ok (seen, bits)
zeros limit fault seen (false ∷ bits) =
    elim (nat_lt seen limit) [
      | true ↦ zeros limit fault (seen + 1) bits
      | false ↦ Err fault
    ]

-- the same as a part of the syntax (9.1, 9.2.2.1)
abbrev pub zeros_before_one : ℕ → Fault → Read ℕ
zeros_before_one limit fault b = passed (zeros limit fault 0 b.ahead)
  where
    passed : Result (ℕ × List Bool) Fault → Result (ℕ × Bits) Fault
    passed (Err f) = Err f
    passed (Ok r) = Ok (r.0, record { position = b.position + r.0 + 1; ahead = r.1 })

-- ue(v) (9.1); a codeword of more than 31 zeros is CodeTooLong, by this decoder's rule
abbrev pub ue : Read ℕ
ue = do
  n ← zeros_before_one 31 faults.CodeTooLong
  m ← u n
  give (2 ^ n - 1 + m)

-- se(v) (9.1.1)
abbrev pub se : Read ℤ
se = ue >>= λ k. give (signed_value k)

-- te(v) (9.1)
abbrev pub te : ℕ → Read ℕ
te range = elim (range == 1) [ true ↦ (flag >>= λ one. give (if one then 0 else 1)) | false ↦ ue ]

-- ue(v) (9.1) of at most this, else OutOfRange (this decoder's rule)
abbrev pub ue_to : ℕ → Read ℕ
ue_to top = do
  v ← ue
  check (nat_le v top) faults.OutOfRange
  give v

-- u(n) (7.2) of at most this, else OutOfRange
abbrev pub u_to : ℕ → ℕ → Read ℕ
u_to n top = do
  v ← u n
  check (nat_le v top) faults.OutOfRange
  give v

-- se(v) (9.1.1) from low to high, else OutOfRange
abbrev pub se_within : ℤ → ℤ → Read ℤ
se_within low high = do
  v ← se
  check (int_le low v && int_le v high) faults.OutOfRange
  give v

-- te(v) (9.1) of at most its range, else OutOfRange
abbrev pub te_to : ℕ → Read ℕ
te_to range = do
  v ← te range
  check (nat_le v range) faults.OutOfRange
  give v

-- so many bits passed over (read_bits, 7.2)
abbrev pub skip : ℕ → Read (Unit {0})
skip n = bits n >>= λ _. give tt

-- To the start of the next byte; no bit where that is here (byte_aligned, 7.2). The bits passed may
-- have any value, by this decoder's rule.
abbrev pub align : Read (Unit {0})
align b = skip ((8 - b.position % 8) % 8) b
