-- The bits of a unit, and reading from their front.
use Rattle.std.specs.Prelude.{ℕ, zero, suc, ◌+◌, ◌/◌, ◌%◌, ◌^◌, Bool, true, false, ◌==◌, List, []}
use Rattle.std.specs.Prelude.{◌∷◌, length, drop, Option, Some, None, Result, Ok, Err}
use Rattle.std.specs.List.{flat_map}
use Rattle.avc_types.specs.declared.fault.Fault.{Fault}

-- A number as n bits, the most significant first (u(n), 7.2).
abbrev pub bits_of : ℕ → ℕ → List Bool
bits_of zero v = []
bits_of (suc n) v = ((v / 2 ^ n) % 2 == 1) ∷ bits_of n v

-- The number that these bits are, the most significant first (u(n), 7.2).
abbrev pub number_of : List Bool → ℕ
number_of [] = 0
number_of (true ∷ bits) = 2 ^ length bits + number_of bits
number_of (false ∷ bits) = number_of bits

-- one more bit in front, of which only a 1 is a last 1 by itself (7.2)
abbrev pub one_before : Bool → Option (List Bool) → Option (List Bool)
one_before b (Some front) = Some (b ∷ front)
one_before true None = Some []
one_before false None = None

-- What stands before the last 1 bit, and nothing where there is no 1 bit (7.2).
abbrev pub before_last_one : List Bool → Option (List Bool)
before_last_one [] = None
before_last_one (b ∷ bits) = one_before b (before_last_one bits)

-- the bits, and no bits where there are none (this decoder's rule)
abbrev pub or_none : Option (List Bool) → List Bool
or_none (Some bits) = bits
or_none None = []

-- the bits of bytes, in each the most significant one first (7.2)
abbrev pub byte_bits : List ℕ → List Bool
byte_bits bytes = flat_map (bits_of 8) bytes

-- The bits of an RBSP before its stop bit, which is the last 1 bit (7.2); none where there is no 1
-- bit.
abbrev pub bits_before_stop : List ℕ → List Bool
bits_before_stop bytes = or_none (before_last_one (byte_bits bytes))

-- What a reader has: how many bits it has passed, and those that stand ahead of it before the stop
-- bit (7.2).
pub record Bits : Type 0 where
  pub position : ℕ
  pub ahead : List Bool

-- a reader at the start of an RBSP (7.2)
abbrev pub start : List ℕ → Bits
start bytes = record { position = 0; ahead = bits_before_stop bytes }

-- a reader at a position that is not past the stop bit (7.2)
abbrev pub at : List ℕ → (position : ℕ) → Bits
at bytes position = record { position = position; ahead = drop position (bits_before_stop bytes) }

-- after the next n bits (read_bits, 7.2)
abbrev pub passed : Bits → (n : ℕ) → Bits
passed b n = record { position = b.position + n; ahead = drop n b.ahead }

-- more_rbsp_data: a bit stands ahead of the stop bit (7.2)
abbrev pub more_data : Bits → Bool
more_data b = elim b.ahead [ [] ↦ false | _ ∷ _ ↦ true ]

-- A part of the syntax (7.1, 7.3): what it is and what is left after it, or the first fault.
abbrev pub Read : Type 0 → Type 0
Read A = Bits → Result (A × Bits) Fault

infixl 10 ◌>>=◌
-- one part, and then the part that its value decides (7.1)
abbrev pub ◌>>=◌ : {A B : Type 0} → Read A → (A → Read B) → Read B
◌>>=◌ {A} {B} part next b = go (part b)
  where
    go : Result (A × Bits) Fault → Result (B × Bits) Fault
    go (Ok r) = next r.0 r.1
    go (Err f) = Err f

infixl 10 ◌>>◌
-- one part, and then another (7.1)
abbrev pub ◌>>◌ : {A B : Type 0} → Read A → Read B → Read B
first >> second = first >>= λ _. second

-- a value for which nothing is read
abbrev pub give : {A : Type 0} → A → Read A
give x b = Ok (x, b)

-- nothing is read, and this is the fault (this decoder's rule)
abbrev pub refuse : {A : Type 0} → Fault → Read A
refuse f b = Err f

-- the fault where the test fails (this decoder's rule)
abbrev pub check : Bool → Fault → Read (Unit {0})
check true f = give tt
check false f = refuse f

-- the part where the flag is true (7.1)
abbrev pub where_set : {A : Type 0} → Bool → Read A → Read (Option A)
where_set true part = part >>= λ x. give (Some x)
where_set false part = give None

-- the part so many times (7.1)
abbrev pub times : {A : Type 0} → ℕ → Read A → Read (List A)
times zero part = give []
times (suc n) part = part >>= λ x. times n part >>= λ xs. give (x ∷ xs)

-- whether there is more data (more_rbsp_data, 7.2), with nothing read
abbrev pub more : Read Bool
more b = Ok (more_data b, b)
