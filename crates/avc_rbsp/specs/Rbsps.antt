-- RBSPs, and the units that carry them (7.3.1, 7.3.2.11).
use Rattle.std.specs.Prelude.{◌≡◌, ℕ, Bool, true, List, [], ◌∷◌, ◌++◌}
use Rattle.avc_bits.specs.Bits.{bits_before_stop}
use Rattle.avc_rbsp.specs.Escaping.{escaped}
use Rattle.avc_rbsp.specs.Made.{IsFilled}

-- The bytes have these bits, the stop bit and 0 bits to the end of the last byte.
abbrev pub IsRbsp : (bits : List Bool) → (bytes : List ℕ) → Type 0
IsRbsp bits bytes = (padding : ℕ) × IsFilled bytes (bits ++ true ∷ []) padding

-- Those bits are the ones before its stop bit.
abbrev pub RbspsAreRead : Type 0
RbspsAreRead =
    (bits : List Bool) (bytes : List ℕ) → IsRbsp bits bytes → bits_before_stop bytes ≡ bits

-- A unit: its header byte, and the body of an RBSP that has these bits, the stop bit and 0 bits to
-- the end of its last byte (7.3.1, 7.3.2.11).
pub record IsUnit (header : ℕ) (bits : List Bool) (unit : List ℕ) : Type 0 where
  pub raw : List ℕ
  pub padding : ℕ
  pub filled : IsFilled raw (bits ++ true ∷ []) padding
  pub body : unit ≡ header ∷ escaped raw
