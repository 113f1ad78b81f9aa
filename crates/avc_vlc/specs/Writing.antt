-- Writing by a table of codewords (9.2.1, 9.2.3): the codeword of a value.
use Rattle.std.specs.Prelude.{ℕ, ℤ, Bool, ◌==◌, ◌&&◌, nat_le, if◌then◌else◌, List, [], ◌∷◌, Option}
use Rattle.std.specs.Prelude.{Some, None}
use Rattle.std.proofs.Common.{◌≡◌, true, false, refl, ap, sym, ◌∙◌}
use Rattle.std.proofs.lemmas.Bool.{eqb-true}
use Rattle.avc_bits.specs.Bits.{bits_of}
use Rattle.avc_vlc.specs.declared.codeword.Codeword.{Codeword}
use Rattle.avc_vlc.specs.declared.coeff_token.Token.{Token}
use Rattle.avc_vlc.specs.Reading.{Table, run_table, token_table, zeros_table}

both_true : (a b : Bool) → (a && b) ≡ true → (a ≡ true) × (b ≡ true)
both_true true true e = (refl, refl)
both_true true false e = cc
both_true false b e = cc

-- the codeword of the first value that passes the test
abbrev pub word_of : {A : Type 0} → (A → Bool) → Table A → Option (List Bool)
word_of is [] = None
word_of is (entry ∷ table) = if is entry.1 then Some entry.0 else word_of is table

-- the two are one value of coeff_token
abbrev pub is_token_same : Token → Token → Bool
is_token_same t other = other.total == t.total && other.ones == t.ones

pub token_is_same : (t other : Token) → is_token_same t other ≡ true → t ≡ other
token_is_same t other is =
    let both = both_true (other.total == t.total) (other.ones == t.ones) is in
    let total : other.total ≡ t.total = eqb-true other.total t.total both.0 in
    let ones : other.ones ≡ t.ones = eqb-true other.ones t.ones both.1 in
    ap (λ n. record { total = n; ones = t.ones }) (sym total)
    ∙ ap (λ n. record { total = other.total; ones = n }) (sym ones)

-- coeff_token, where nC has a codeword for it
abbrev pub token_word : (nc : ℤ) → Token → Option (List Bool)
token_word nc t = word_of (is_token_same t) (token_table nc)

-- the two are one number
abbrev pub is_number_same : ℕ → ℕ → Bool
is_number_same n other = other == n

pub number_is_same : (n other : ℕ) → is_number_same n other ≡ true → n ≡ other
number_is_same n other is = sym (eqb-true other n is)

-- total_zeros, where TotalCoeff has a codeword for it
abbrev pub zeros_word : (total : ℕ) → (chroma_dc : Bool) → (zeros : ℕ) → Option (List Bool)
zeros_word total chroma_dc zeros = word_of (is_number_same zeros) (zeros_table total chroma_dc)

-- A run above zerosLeft has none.
abbrev pub run_word : (zeros_left run : ℕ) → Option (List Bool)
run_word zeros_left run =
    if nat_le run zeros_left then word_of (is_number_same run) (run_table zeros_left) else None

-- a codeword's bits
abbrev pub word_bits : Codeword → List Bool
word_bits w = bits_of w.length w.number
