-- A unit that is cut, and its bits read again.
use Rattle.std.proofs.Common.{◌≡◌, ℕ, Bool, true, ap, subst, ◌∙◌, List, [], ◌∷◌, ◌++◌, take, drop}
use Rattle.std.proofs.Common.{arith, Ok}
use Rattle.std.specs.Prelude.{Option}
use Rattle.avc_annexb.specs.Escapes.{rbsp}
use Rattle.avc_bits.specs.Bits.{Bits, bits_before_stop}
use Rattle.avc_bits.specs.Codes.{flag}
use Rattle.avc_rbsp.specs.Escaping.{escaped}
use Rattle.avc_rbsp.specs.Made.{Made, IsFilled, nothing, with_bits}
use Rattle.avc_rbsp.specs.Rbsps.{RbspsAreRead}
use Rattle.avc_rbsp.specs.Rbsps.{IsUnit}
use Rattle.avc_replay.specs.Cutting.{run_bits, IsCutUnit}

-- the bit that is read
pub bit_read : (b left : Bits) (bit : Bool) → flag b ≡ Ok (bit, left) → b.ahead ≡ bit ∷ left.ahead
bit_read b left bit read = grind arith

-- the bits of a unit stand before its stop bit
pub unit_read : ((bytes : List ℕ) → rbsp (escaped bytes) ≡ bytes) → RbspsAreRead → (header : ℕ) (bits : List Bool) (unit : List ℕ) → IsUnit header bits unit → bits_before_stop (rbsp (drop 1 unit)) ≡ bits
unit_read removed read header bits unit is =
    ap (λ (u : List ℕ). bits_before_stop (rbsp (drop 1 u))) is.body ∙ ap bits_before_stop (removed is.raw) ∙ read bits is.raw (is.padding, is.filled)

-- the bits that are kept, the run and the stop bit were put one after another
pub unit_cut : (header : ℕ) (body raw : List ℕ) (kept : ℕ) (run : Option ℕ) (first second third fourth : Made) (bytes : List ℕ) (padding : ℕ) (unit : List ℕ) → raw ≡ rbsp body → first ≡ nothing
    → second ≡ with_bits first (take kept (bits_before_stop raw)) → third ≡ with_bits second (run_bits run) → fourth ≡ with_bits third (true ∷ []) → IsFilled bytes fourth.bits padding → unit ≡ header ∷ escaped bytes
    → IsCutUnit header body kept run unit
unit_cut header body raw kept run first second third fourth bytes padding unit of_raw of_first of_second of_third of_fourth filled is = record {
  raw = bytes;
  padding = padding;
  filled = subst (λ bits. IsFilled bytes bits padding) all filled;
  body = is;
}
  where
    kept_of : List ℕ → List Bool
    kept_of l = take kept (bits_before_stop l)

    all : fourth.bits ≡ (kept_of (rbsp body) ++ run_bits run) ++ true ∷ []
    all =
        ap (λ (m : Made). m.bits) of_fourth ∙ ap (λ (m : Made). m.bits ++ true ∷ []) of_third ∙ ap (λ (m : Made). (m.bits ++ run_bits run) ++ true ∷ []) of_second
        ∙ ap (λ (m : Made). ((m.bits ++ kept_of raw) ++ run_bits run) ++ true ∷ []) of_first ∙ ap (λ (l : List ℕ). (kept_of l ++ run_bits run) ++ true ∷ []) of_raw
