-- Where the parts of a read end.
pub use Rattle.std.proofs.Common.{◌≡◌, ℕ, ◌+◌, ◌-◌, ◌<◌, ◌≤◌, List, Bool, true, false, eqb, ap, sym, ◌∙◌, arith, length, slice_index, drop, get_or, inl, inr}
use Rattle.std.specs.Prelude.{◌&&◌}
use Rattle.std.proofs.lemmas.Bool.{cases_lt, false_from_ne_true}
pub use Rattle.std.proofs.lemmas.List.{get_or-drop, length-drop, take_rest}
use Rattle.avc_console.specs.Parts.{may_end_start_code}

off : (x y z : Bool) → x ≡ false → x && y && z ≡ false
off x y z is = ap (λ b. b && y && z) is

-- another byte than 1
other_byte : (bytes : List ℕ) (k : ℕ) → eqb (slice_index bytes k) 1 ≡ false → may_end_start_code bytes k ≡ false
other_byte bytes k other = off _ _ _ other

-- where no byte is 1 none ends a start code
pub none_further : (bytes : List ℕ) (begin place len : ℕ) → ((k : ℕ) → begin ≤ k → k < place → may_end_start_code bytes k ≡ false) → ((k : ℕ) → 0 ≤ k → k < len → eqb (get_or (drop place bytes) k 0) 1 ≡ true → ⊥)
    → (k : ℕ) → begin ≤ k → k < place + len → may_end_start_code bytes k ≡ false
none_further bytes begin place len none free = λ k low high. elim (cases_lt k place) [
  | inl below ↦ none k low below
  | inr above ↦
      let back : place + (k - place) ≡ k = omega arith in
      other_byte bytes k (false_from_ne_true (eqb (slice_index bytes k) 1) (λ one. free (k - place) (omega arith) (omega arith)
      (ap (λ x. eqb x 1) (get_or-drop place bytes (k - place) 0 ∙ ap (slice_index bytes) back) ∙ one)))
]

-- nor the byte behind them, where it does not
pub none_with : (bytes : List ℕ) (begin place : ℕ) → ((k : ℕ) → begin ≤ k → k < place → may_end_start_code bytes k ≡ false) → may_end_start_code bytes place ≡ false
    → (k : ℕ) → begin ≤ k → k < place + 1 → may_end_start_code bytes k ≡ false
none_with bytes begin place none last = λ k low high. elim (cases_lt k place) [
  | inl below ↦ none k low below
  | inr above ↦
      let same : k ≡ place = omega arith in
      ap (may_end_start_code bytes) same ∙ last
]
