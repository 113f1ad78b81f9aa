-- The codewords of syntax elements (9.1).
use Rattle.std.specs.Prelude.{◌≡◌, ℕ, ◌+◌, ◌-◌, ◌*◌, ℤ, pos, negsuc, Bool, true, false, ◌==◌}
use Rattle.std.specs.Prelude.{if◌then◌else◌, List, [], ◌∷◌, ◌++◌, length, replicate, Ok}
use Rattle.std.specs.Int.Count.{count_leading_zeros}
use Rattle.avc_bits.specs.Bits.{Read, bits_of}

-- how many bits of 32 stand after the first 1
abbrev pub bits_after_one : ℕ → ℕ
bits_after_one n = 31 - count_leading_zeros 32 n

-- ue(v) of a value below 2 ^ 32 - 1: the value and 1 in binary, after as many zeros as bits follow
-- its first 1
unfoldable pub ue_word : ℕ → List Bool
ue_word v = replicate (bits_after_one (v + 1)) false
    ++ true ∷ bits_of (bits_after_one (v + 1)) (v + 1)

-- the place of a value in 0, 1, -1, 2, -2, .. (9.1.1)
abbrev pub signed_index : ℤ → ℕ
signed_index (pos n) = 2 * n - 1
signed_index (negsuc n) = 2 * (n + 1)

-- se(v) of a value above -2 ^ 31
unfoldable pub se_word : ℤ → List Bool
se_word v = ue_word (signed_index v)

-- te(v) of a value in 0 .. range: where the range is 1 a bit turned round, else ue(v)
abbrev pub te_word : (range : ℕ) → ℕ → List Bool
te_word range v = if range == 1 then (v == 0) ∷ [] else ue_word v

-- words one after another
abbrev pub joined : List (List Bool) → List Bool
joined [] = []
joined (word ∷ []) = word
joined (word ∷ next ∷ words) = word ++ joined (next ∷ words)

-- Read from this word with these bits after it, the part is the value, and those bits are left.
unfoldable pub ReadsBack : {A : Type 0} → List Bool → Read A → List Bool → A → Type 0
ReadsBack rest part word value =
    (position : ℕ) → part (record { position = position; ahead = word ++ rest })
    ≡ Ok (value, record { position = position + length word; ahead = rest })
